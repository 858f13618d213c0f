use Rattle.std.proofs.Common.{◌≡◌, ℕ, List, [], ◌∷◌, ◌++◌, append_assoc, refl, sym, ap, ◌∙◌, subst, inl}
use Rattle.std.proofs.Common.{inr, ◌⊎◌, Option, Some, None, Result, Ok, Err, IfSome, OnSome}
use Rattle.std.proofs.lemmas.List.{append-nil}
use Rattle.std.specs.Io.KnownBytes.{Appends, Keeps, IsAtEnd}
use Rattle.std.proofs.KnownBytes.{Appends-nil, Appends-kept, Consumes-nil}
use Rattle.std.specs.Prelude.{nat_eq}
use Rattle.lru_limits.specs.Admissions.{Terms, offers_of}
use Rattle.lru_limits.specs.Budget.{budget_terms}
use Rattle.lru_limits.specs.Rules.{Rules}
use Rattle.std.proofs.lemmas.Option.{IfSome_then}
use Rattle.lru_replay.specs.declared.lines.words.Limit.{Limit}
use Rattle.lru_replay.specs.declared.lines.words.Limit.TheVariants as limits
use Rattle.lru_replay.specs.declared.lines.line.Ending.{Ending}
use Rattle.lru_replay.specs.declared.lines.line.Ending.TheVariants as endings
use Rattle.lru_replay.specs.declared.lines.outcome.ReplayEnd.{ReplayEnd}
use Rattle.lru_replay.specs.declared.lines.outcome.ReplayEnd.TheVariants as ends
use Rattle.lru_replay.specs.declared.lines.outcome.ReplayError.{ReplayError}
use Rattle.lru_replay.specs.declared.lines.outcome.ReplayError.TheVariants as errors
use Rattle.lru_replay.specs.Grammar.{SpellsLimit}
use Rattle.lru_replay.specs.Lines.{lines_of, TakesFed, TakesRest, TakesLine, TakesPart, TakesFirst}
use Rattle.lru_replay.specs.Output.{Begins, Fails, no_limiter_text}
use Rattle.lru_replay.specs.Replay.{IsTextUnder, IsReplay, NamesNoLimit, IsOutput, SoFar, plain_entry_bytes}
use Rattle.lru_replay.specs.Replay.{Replays, Finished, WriteFailed}
use Rattle.lru_limits.specs.Limiters.{length_rules, length_terms, memory_rules, no_rules, all_terms}
use Rattle.lru_replay.specs.Limits.{cost_rules, no_cost, cost_reported}
use Rattle.lru_replay.specs.Maps.{Map, empty}
use Rattle.lru_model.specs.Sizes.{max_of_32_bits, max_of_64_bits}
use Rattle.lru_replay.specs.LineRuns.{IsTextOf, Answers, OfAll, BeginsText}
use Rattle.lru_replay.proofs.LineLists.{lines_of-fed, lines_of-last, lines_at_end, lines_left, takes_line_before}
use Rattle.lru_replay.proofs.LineRuns.{some_line_run, line_run_map, line_run-append}
use Rattle.lru_replay.proofs.ByteLists.{Consumes_end}
use Rattle.lru_model.proofs.CallerLemmas.{empty_is_map}
use Rattle.lru_replay.proofs.SpelledLines.{limit_or}
use Rattle.lru_replay.proofs.SpelledWords.{short_limit}

after_first : (a b : Option (List ℕ)) (first : List ℕ) (P Q : List ℕ → Type 0) → TakesFed a b first
    → ((rest input : List ℕ) → lines_of input ≡ first ∷ lines_of rest → P rest → Q input) → IfSome b P → IfSome a Q
after_first None b first P Q taken f h = tt
after_first (Some x) None first P Q (lacks, p) f h = absurd p
after_first (Some x) (Some y) first P Q (lacks, p) f h = f y x (ap lines_of p ∙ lines_of-fed first y lacks) h

only_first : (a b : Option (List ℕ)) (first : List ℕ) (Q : List ℕ → Type 0) → TakesRest a b first
    → ((input : List ℕ) → lines_of input ≡ lines_of first → Q input) → IfSome a Q
only_first a b first Q taken f = IfSome_then a (lines_at_end a a b [] first (tt, tt, Consumes-nil a) taken) f

none_first : (lines : List (List ℕ)) → lines ≡ [] → NamesNoLimit lines
none_first lines e limit first others is spells = let h : [] ≡ first ∷ others = sym e ∙ is in absurd (cc)

none_named : (lines others : List (List ℕ)) (first : List ℕ) → lines ≡ first ∷ others
    → ((limit : Limit) → SpellsLimit first limit → ⊥) → NamesNoLimit lines
none_named lines others first e none limit other more is spells =
    let same : first ≡ other = (let h : first ∷ others ≡ other ∷ more = sym e ∙ is in cc) in
    none limit (subst (λ l. SpellsLimit l limit) (sym same) spells)

pub no_limit : (a b : Option (List ℕ)) (ending : Ending) (first : List ℕ) → TakesLine a b ending first
    → ((limit : Limit) → SpellsLimit first limit → ⊥)
    → IfSome a (λ input. NamesNoLimit (lines_of input))
no_limit None b ending first taken none = tt
no_limit (Some x) None endings.Feed first taken none = absurd taken.1
no_limit (Some x) (Some y) endings.Feed first taken none = none_named (lines_of x) (lines_of y) first
    (ap lines_of taken.1 ∙ lines_of-fed first y taken.0) none
no_limit (Some x) b endings.InputEnd first (taken, some) none = only_first (Some x) b first
    (λ input. NamesNoLimit (lines_of input)) taken
    (λ input same. none_named (lines_of input) [] first (same ∙ lines_of-last first taken.0 some) none)
no_limit (Some x) b endings.Nothing first (taken, nothing) none = only_first (Some x) b first
    (λ input. NamesNoLimit (lines_of input)) taken
    (λ input same. none_first (lines_of input) (same ∙ ap lines_of nothing))

module _ {S : Type 0} (rules : Rules ℕ ℕ S) (terms : Terms ℕ ℕ S) (reported : S → Option ℕ) (limiter : S)
    (entry_bytes max : ℕ) where
  abbrev start : Map S
  start = empty limiter entry_bytes max

  text_goes_on : (lines more : List (List ℕ)) (text : List ℕ)
      → IsTextOf rules (offers_of terms) reported start lines text
      → (u : List ℕ) × IsTextOf rules (offers_of terms) reported start (lines ++ more) (text ++ u)
  text_goes_on lines more text (now, run) =
      let map = line_run_map rules (offers_of terms) reported start lines text now
      (empty_is_map limiter _ entry_bytes max nat_eq) run in
      let (u, new, others) = some_line_run rules terms reported now map more in
      (u, (new, line_run-append rules (offers_of terms) reported start lines text now more u new run others))

under_goes_on : (limit : Limit) (lines more : List (List ℕ)) (text : List ℕ) → IsTextUnder limit lines text
    → (u : List ℕ) × IsTextUnder limit (lines ++ more) (text ++ u)
under_goes_on (limits.Length most) =
    text_goes_on length_rules length_terms no_cost most plain_entry_bytes max_of_32_bits
under_goes_on (limits.Memory budget entry_bytes) =
    text_goes_on memory_rules all_terms no_cost budget entry_bytes max_of_32_bits
under_goes_on (limits.Cost most) = text_goes_on cost_rules (budget_terms (λ k v. v)) cost_reported
    (record { limit = most; cost = 0 }) plain_entry_bytes max_of_64_bits
under_goes_on limits.Compact =
    text_goes_on no_rules all_terms no_cost (record {}) plain_entry_bytes max_of_32_bits

no_lines_under : (limit : Limit) → IsTextUnder limit [] []
no_lines_under (limits.Length most) = (empty most plain_entry_bytes max_of_32_bits, ([], refl, refl))
no_lines_under (limits.Memory budget entry_bytes) = (empty budget entry_bytes max_of_32_bits, ([], refl, refl))
no_lines_under (limits.Cost most) =
    (empty (record { limit = most; cost = 0 }) plain_entry_bytes max_of_64_bits, ([], refl, refl))
no_lines_under limits.Compact = (empty (record {}) plain_entry_bytes max_of_32_bits, ([], refl, refl))

some_output : (lines : List (List ℕ)) → (text : List ℕ) × IsOutput lines text
some_output [] = (no_limiter_text, inr (none_first [] refl, refl))
some_output (first ∷ lines) = by (limit_or first)
  where
    by : ((limit : Limit) × SpellsLimit first limit) ⊎ ((limit : Limit) → SpellsLimit first limit → ⊥)
        → (text : List ℕ) × IsOutput (first ∷ lines) text
    by (inl (limit, spells)) = let (text, is) = under_goes_on limit [] lines [] (no_lines_under limit) in
        (text, inl (limit, first, lines, refl, spells, is))
    by (inr none) = (no_limiter_text, inr (none_named (first ∷ lines) lines first refl none, refl))

output_goes_on : (lines more : List (List ℕ)) (text : List ℕ) → SoFar IsOutput lines text → (u : List ℕ)
    × IsOutput (lines ++ more) (text ++ u)
output_goes_on [] more text none = let (u, is) = some_output more in
    (u, subst (λ l. IsOutput more (l ++ u)) (sym none) is)
output_goes_on (line ∷ lines) more text (inl (limit, first, others, same, spells, is)) =
    let (u, goes) = under_goes_on limit others more text is in
    (u, inl (limit, first, others ++ more, ap (λ ls. ls ++ more) same, spells, goes))
output_goes_on (line ∷ lines) more text (inr (none, is)) = (
  [],
  inr (
    none_named (line ∷ lines ++ more) (lines ++ more) line refl
        (λ limit spells. none limit line lines refl spells),
    append-nil text ∙ is,
  ),
)

cut_of_all : (a b w v : Option (List ℕ)) → BeginsText IsOutput (SoFar IsOutput) a b w v
    → OfAll IsOutput a (Begins w v)
cut_of_all a b w v (inl (cut, at_end)) = cut
cut_of_all None b w v h = tt
cut_of_all (Some x) None w v (inr (lines, text, rest, is, reads, begun)) = absurd reads.2
cut_of_all (Some x) (Some y) w v (inr (lines, text, rest, is, reads, (part, (more, front), wrote))) =
    let (u, goes) = output_goes_on lines (lines_of (rest ++ y)) text is in (
      text ++ u,
      subst (λ ls. IsOutput ls (text ++ u)) (sym (lines_left x y lines rest reads)) goes,
      (part, (more ++ u, ap (λ l. l ++ u) front ∙ append_assoc part more u), wrote),
    )

cut_off : (a b w v : Option (List ℕ)) → BeginsText IsOutput (SoFar IsOutput) a b w v → WriteFailed a b w v
cut_off a b w v reads = record { cut = cut_of_all a b w v reads; reads = reads }

finished : (a b w v : Option (List ℕ)) → OfAll IsReplay a (Appends w v) → OnSome a (IsAtEnd b) → Finished a b w v
finished a b w v replay at_end = record {
  named = IfSome_then a replay (λ input (text, (limit, first, others, is, spells, run), wrote) names.
      names limit first others is spells);
  replay = replay;
  at_end = at_end;
}

pub replays-kept : (a b w v u : Option (List ℕ)) (end : Result ReplayEnd ReplayError) → Keeps v u → Replays a b w v end
    → Replays a b w u end
replays-kept a b w v u (Ok ends.Done) keeps h = finished a b w u
    (IfSome_then a h.replay (λ input (text, is, wrote). (text, is, Appends-kept w v u text wrote keeps))) h.at_end
replays-kept a b w v u (Ok ends.NoLimiter) keeps h = record {
  unnamed = h.unnamed;
  reads = h.reads;
  writes = Appends-kept w v u no_limiter_text h.writes keeps;
}
replays-kept a b w v u (Err errors.Read) keeps (lines, text, part, is, reads, wrote) =
    (lines, text, part, is, reads, Appends-kept w v u text wrote keeps)
replays-kept a b w v u (Err errors.Write) keeps h = cut_off a b w u (elim h.reads [
  | inl (cut, at_end) ↦ inl (
    IfSome_then a cut
        (λ input (text, is, (part, front, wrote)). (text, is, (part, front, Appends-kept w v u part wrote keeps))),
    at_end,
  )
  | inr (lines, text, rest, is, reads, (part, front, wrote)) ↦
      inr (lines, text, rest, is, reads, (part, front, Appends-kept w v u part wrote keeps))
])

all_of : (w v : Option (List ℕ)) (text : List ℕ) → Appends w v text → Begins w v text
all_of w v text wrote = (text, ([], sym (append-nil text)), wrote)

so_far_output : (lines : List (List ℕ)) (text : List ℕ) → SoFar IsReplay lines text → SoFar IsOutput lines text
so_far_output [] text is = is
so_far_output (first ∷ others) text is = inl is

unnamed_cut : (a b w v : Option (List ℕ)) → IfSome a (λ input. NamesNoLimit (lines_of input)) → TakesFirst a b
    → Begins w v no_limiter_text → BeginsText IsOutput (SoFar IsOutput) a b w v
unnamed_cut None b w v none reads begun = inl (tt, tt)
unnamed_cut (Some x) b w v none (line, inr rest) begun = inl ((no_limiter_text, inr (none, refl), begun), rest.2)
unnamed_cut (Some x) None w v none (line, inl fed) begun = absurd fed.1
unnamed_cut (Some x) (Some y) w v none (line, inl fed) begun =
    let first : lines_of x ≡ line ∷ lines_of y = ap lines_of fed.1 ∙ lines_of-fed line y fed.0 in
    let unnamed : (limit : Limit) → SpellsLimit line limit → ⊥ = λ limit spells. none limit line
    (lines_of y) first spells in
    inr (
      line ∷ [],
      no_limiter_text,
      [],
      inr (none_named (line ∷ []) [] line refl unnamed, refl),
      takes_line_before (Some x) (Some y) (Some y) line [] [] fed (tt, tt, refl),
      begun,
    )

pub flush_failed : (a b w v : Option (List ℕ)) (end : Result ReplayEnd ReplayError) → Replays a b w v end
    → Replays a b w v (Err errors.Write)
flush_failed a b w v (Ok ends.Done) h = cut_off a b w v (inl (
  IfSome_then a h.replay
      (λ input (text, is, wrote). (text, inl is, all_of w v text wrote)),
  h.at_end,
))
flush_failed a b w v (Ok ends.NoLimiter) h =
    cut_off a b w v (unnamed_cut a b w v h.unnamed h.reads (all_of w v no_limiter_text h.writes))
flush_failed a b w v (Err errors.Read) (lines, text, part, is, reads, wrote) =
    cut_off a b w v (inr (lines, text, part, so_far_output lines text is, reads, all_of w v text wrote))
flush_failed a b w v (Err errors.Write) h = h

pub first_failed : (a b w : Option (List ℕ)) (part : List ℕ) → TakesPart a b part → Replays a b w w (Err errors.Read)
first_failed a b w part taken = ([], [], part, refl, (tt, taken.0, taken.1), Appends-nil w)

module _ (a b w v : Option (List ℕ)) (ending : Ending) (first : List ℕ)
    (none : (limit : Limit) → SpellsLimit first limit → ⊥) (taken : TakesLine a b ending first) where
  takes_first : TakesFirst a b
  takes_first = by ending taken
    where
      by : (ending : Ending) → TakesLine a b ending first → TakesFirst a b
      by endings.Feed fed = (first, inl fed)
      by endings.InputEnd rest = (first, inr rest.0)
      by endings.Nothing rest = (first, inr rest.0)

  pub no_limiter : Appends w v no_limiter_text → Replays a b w v (Ok ends.NoLimiter)
  no_limiter wrote = record { unnamed = no_limit a b ending first taken none; reads = takes_first; writes = wrote }

  pub no_limiter_cut : (e : ReplayError) → Fails e w v no_limiter_text → Replays a b w v (Err e)
  no_limiter_cut errors.Read (same, begun) = absurd (cc same)
  no_limiter_cut errors.Write (same, begun) =
      cut_off a b w v (unnamed_cut a b w v (no_limit a b ending first taken none) takes_first begun)

rest_taken : (a b : Option (List ℕ)) (ending : Ending) (line : List ℕ) → (ending ≡ endings.Feed → ⊥)
    → TakesLine a b ending line → TakesRest a b line
rest_taken a b endings.Feed line not_fed taken = absurd (not_fed refl)
rest_taken a b endings.InputEnd line not_fed taken = taken.0
rest_taken a b endings.Nothing line not_fed taken = taken.0

pub done_first : (a b w : Option (List ℕ)) (ending : Ending) (first : List ℕ) (limit : Limit) → SpellsLimit first limit
    → (ending ≡ endings.Feed → ⊥) → TakesLine a b ending first
    → Replays a b w w (Ok ends.Done)
done_first a b w ending first limit spells not_fed line =
    let taken = rest_taken a b ending first not_fed line in
    finished a b w w (only_first a b first (λ input. (text : List ℕ) × IsReplay (lines_of input) text × Appends w w text)
    taken (λ input same. (
      [],
      (
        limit,
        first,
        [],
        same ∙ lines_of-last first taken.0 (short_limit first limit spells).0,
        spells,
        no_lines_under limit,
      ),
      Appends-nil w,
    ))) taken.2

module _ (a b c w v : Option (List ℕ)) (first : List ℕ) (limit : Limit) (spells : SpellsLimit first limit)
    (taken : TakesFed a b first) where
  pub done_others : Answers (IsTextUnder limit) b c w v (Ok tt) → Replays a c w v (Ok ends.Done)
  done_others (done, at_end) = finished a c w v
      (after_first a b first _ _ taken
      (λ rest input all (text, is, wrote). (text, (limit, first, lines_of rest, all, spells, is), wrote)) done)
      (Consumes_end a b c _ taken.1 at_end)

  pub others_failed : (e : ReplayError) → Answers (IsTextUnder limit) b c w v (Err e) → Replays a c w v (Err e)
  others_failed errors.Read (lines, text, part, is, reads, wrote) = (
    first ∷ lines,
    text,
    part,
    (limit, first, lines, refl, spells, is),
    takes_line_before a b c first lines part taken reads,
    wrote,
  )
  others_failed errors.Write (inl (cut, at_end)) = cut_off a c w v (inl (
    after_first a b first _ _ taken (λ rest input all (text, is, begun).
        (text, inl (limit, first, lines_of rest, all, spells, is), begun)) cut,
    Consumes_end a b c _ taken.1 at_end,
  ))
  others_failed errors.Write (inr (lines, text, rest, is, reads, begun)) = cut_off a c w v (inr (
    first ∷ lines,
    text,
    rest,
    inl (limit, first, lines, refl, spells, is),
    takes_line_before a b c first lines rest taken reads,
    begun,
  ))
