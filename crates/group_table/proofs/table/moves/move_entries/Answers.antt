use Rattle.std.proofs.Common.{◌≡◌, ◌<◌, None, get_or, set, length, take, replicate, is_some, refl, ap, sym, ◌∙◌, arith}
use Rattle.std.proofs.Common.{length-set}
use Rattle.std.proofs.lemmas.List.{take_all, get_or-set_same, get_or-set_other}
use native.Mathlib.Decide.{dec_lt}
use Rattle.group_table.proofs.BucketLemmas.{empty_not_deleted, deleted_count-none}
use Rattle.group_table.proofs.CopyLemmas.{replicate-from}
use Rattle.group_table.proofs.FreshLemmas.{entry_count-none}
use Rattle.group_table.proofs.FitsLemmas.{Fits-none}
use Rattle.group_table.proofs.JoinLemmas.{length-joined, entry_count-joined, deleted_count-joined}
use Rattle.group_table.proofs.LayoutLemmas.{none_by}
use Rattle.group_table.proofs.MoveLemmas.{Moves-none, Moves-same, Moves-more, KeepsHashes-same}
use Rattle.group_table.proofs.MoveLemmas.{KeepsHashes-more, none_yet, come_there, come_elsewhere, come_none}
use Rattle.group_table.proofs.MoveLemmas.{count_one, count_none, come_fewer}
use Rattle.group_table.proofs.table.moves.move_entries.Goals.{then-byte-lt-DELETED, else-byte-lt-DELETED}
use Rattle.group_table.proofs.table.moves.move_entries.Goals as goal

pub loop-b-init : goal.loop-b-init
loop-b-init g c = record {
  old_length = refl;
  freed = λ k p. absurd (omega arith);
  rest = λ k p. refl;
  same = refl;
  buckets = refl;
  insertions = refl;
  none_deleted = deleted_count-none c.args.fresh.now.slots (λ b e. empty_not_deleted _ (c.requires.all_empty b) e);
  entries = entry_count-none c.args.fresh.now.slots c.requires.all_empty;
  moves = Moves-none g.N.LinkType.number g.N.LinkType.MAX _ c.args.fresh.now.slots c.args.links.now.items
      (λ b. refl) c.requires.all_empty c.requires.none_linked;
  hashes = λ hash_at gives moved_hash_of same. Fits-none c.args.fresh.now.slots moved_hash_of c.requires.all_empty;
}

pub place_fresh-requires-clause-growth_left : goal.place_fresh-requires-clause-growth_left
place_fresh-requires-clause-growth_left g c =
    let l = c.loop-b.invariant in
    let whole = c.args.old.now in
    let within : c.loop-b.b < length whole = omega arith in
    let there = sym (l.rest c.loop-b.b (omega arith)) ∙ c.read-entry.ensures.entry in
    let fewer = come_fewer whole c.loop-b.b within (ap is_some there) in
    rw l.buckets (omega (arith, fewer, l.entries, c.requires.within))

pub loop-b-preserved : goal.loop-b-preserved
loop-b-preserved g c =
    let at = c.loop-b in
    let l = at.invariant in
    let whole = c.args.old.now in
    let within : at.b < length whole = omega arith in
    elim c.if-byte-lt-DELETED.branch [
      | then-byte-lt-DELETED w ↦
          let there = sym (l.rest at.b (omega arith)) ∙ w.read-entry.ensures.entry in
          let joins = w.place_fresh.ensures.joins in
          let below : w.place_fresh.result < g.N.LinkType.number g.N.LinkType.MAX =
          omega (arith, joins.within, l.buckets, c.requires.below) in
          let bound : at.b < length at.links.items = omega (arith, l.same, c.requires.one_each) in
          let come = come_there whole at.b within ∙ there in
          rw (w.old-is, w.fresh-is, w.links-is, w.from_usize.ensures, w.read-entry.ensures.places) record {
            old_length = length-set _ _ _ ∙ l.old_length;
            freed = λ k p. elim (dec_lt k at.b) [
              | yes q ↦ get_or-set_other _ _ k None None (omega arith) ∙ l.freed k q
              | no q ↦ let here : k ≡ at.b = omega arith in
                  ap (λ n. get_or (set at.old at.b None) n None) here
                  ∙ get_or-set_same at.old at.b None None (omega arith)
            ];
            rest = λ k p. get_or-set_other _ _ k None None (omega arith) ∙ l.rest k (omega arith);
            same = length-set _ _ _ ∙ l.same;
            buckets = length-joined joins ∙ l.buckets;
            insertions = w.place_fresh.ensures.insertions ∙ l.insertions;
            none_deleted = deleted_count-joined joins ∙ l.none_deleted;
            entries = entry_count-joined joins
                ∙ omega (arith, l.entries, count_one whole at.b within (ap is_some there));
            moves = Moves-more g.N.LinkType.number g.N.LinkType.MAX g.N.LinkType.link g.met.N.LinkType.laws _ _ at.b
                (none_yet whole at.b within) come (come_elsewhere whole at.b within) bound below joins l.moves;
            hashes =
                λ hash_at gives. KeepsHashes-more g.N.LinkType.number g.N.LinkType.MAX g.N.LinkType.link
                g.met.N.LinkType.laws _ _ at.b
                (none_yet whole at.b within) come (come_elsewhere whole at.b within) bound below joins l.moves hash_at
                (gives at.b _ _ there
                (record { shown = _; shows = refl; says = record { met = w.hash_of-hash.ensures } }))
                (l.hashes hash_at gives);
          }
      | else-byte-lt-DELETED w ↦
          let gone = none_by _ _ (c.requires.laid_out.agrees at.b within) (omega arith) in
          let same = come_none whole at.b within gone in
          rw (w.old-is, w.fresh-is, w.links-is) record {
            old_length = l.old_length;
            freed = λ k p. elim (dec_lt k at.b) [
              | yes q ↦ l.freed k q
              | no q ↦ let here : k ≡ at.b = omega arith in
                  ap (λ n. get_or at.old n None) here ∙ l.rest at.b (omega arith) ∙ gone
            ];
            rest = λ k p. l.rest k (omega arith);
            same = l.same;
            buckets = l.buckets;
            insertions = l.insertions;
            none_deleted = l.none_deleted;
            entries = l.entries ∙ sym (count_none whole at.b within gone);
            moves = Moves-same g.N.LinkType.number g.N.LinkType.MAX _ _ _ same l.moves;
            hashes =
                λ hash_at gives. KeepsHashes-same g.N.LinkType.number g.N.LinkType.MAX _ _ _ same hash_at
                (l.hashes hash_at gives);
          }
    ]

pub returns-clause-none_left : goal.returns-clause-none_left
returns-clause-none_left g c =
    let l = c.loop-b.invariant in
    replicate-from c.loop-b.old None None (λ k p. l.freed k (omega arith)) ∙ ap (λ n. replicate n None) l.old_length

pub returns-clause-hashes : goal.returns-clause-hashes
returns-clause-hashes g c =
    let all : take c.loop-b.b c.args.old.now ≡ c.args.old.now = take_all _ _ (omega arith) in
    rw all at c.loop-b.invariant.hashes
