use Rattle.std.proofs.Common.{get_or, ◌≡◌, ◌+◌, ◌<◌, ◌∷◌, [], ◌++◌, length, take, drop, ap, sym, ◌∙◌, arith, rules}
use Rattle.std.proofs.lemmas.List.{take_all, append-nil, append_assoc, take_more, take-append-drop, length-append}
use Rattle.lru_replay.specs.declared.lines.line.TheConstants.{HELD}
use Rattle.lru_replay.proofs.ByteLists.{kept_more, kept_full}
use Rattle.lru_replay.proofs.lines.line.Line.extend.Goals as goal

pub loop-byte-init : goal.loop-byte-init
loop-byte-init c = record {
  growth_left = c.requires;
  so_far = sym (ap (take HELD) (append-nil c.args.self.now) ∙ take_all HELD c.args.self.now c.requires);
}

pub loop-byte-preserved : goal.loop-byte-preserved
loop-byte-preserved c =
    let s = c.loop-byte in
    let piece = c.args.piece.now in
    let b = get_or piece s.byte-index 0 in
    let short : length s.self < HELD = omega (arith, s.invariant.growth_left, c.if-len-eq-HELD.false) in
    let one : take (s.byte-index + 1) piece ≡ take s.byte-index piece ++ b ∷ [] = take_more piece s.byte-index 0
    (search rules) in
    record {
      growth_left = rw c.push.ensures (simp length-append (omega (arith, short)));
      so_far = c.push.ensures ∙ kept_more HELD _ _ b s.invariant.so_far short
          ∙ ap (take HELD) (append_assoc c.args.self.now (take s.byte-index piece) (b ∷ [])
          ∙ ap (λ l. c.args.self.now ++ l) (sym one));
    }

pub returns-then-len-eq-HELD : goal.returns-then-len-eq-HELD
returns-then-len-eq-HELD c =
    let i = c.loop-byte.byte-index in
    let piece = c.args.piece.now in
    kept_full HELD _ _ (drop i piece) c.loop-byte.invariant.so_far (omega arith)
    ∙ ap (take HELD) (append_assoc c.args.self.now (take i piece) (drop i piece)
    ∙ ap (λ l. c.args.self.now ++ l) (take-append-drop i piece))
