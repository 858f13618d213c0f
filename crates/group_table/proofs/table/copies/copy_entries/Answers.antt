use Rattle.std.proofs.Common.{◌≡◌, ℕ, ◌+◌, Some, None, refl, ap, ◌∙◌, arith, length, length-set, get_or, replicate}
use Rattle.std.proofs.lemmas.List.{length-replicate, get_or-set_same, get_or-set_other}
use native.Mathlib.Decide.{dec_lt}
use Rattle.group_table.proofs.CloneLemmas.{place_copies, copy_agrees, none_at}
use Rattle.group_table.proofs.LayoutLemmas.{none_by, buckets_of-laid_out}
use Rattle.group_table.proofs.table.copies.copy_entries.Goals as goal

pub entries-init : goal.entries-init
entries-init g c =
    let next = c.next-b.ensures.next 0 c.of-walk.ensures in
    let many = buckets_of-laid_out _ _ c.requires.laid_out in
    let count = c.buckets-count.result in
    let made : c.in_ok-copies.copies ≡ replicate count None = c.in_ok-copies.ensures in
    let none : (k : ℕ) → get_or c.in_ok-copies.copies k None ≡ None =
    λ k. ap (λ l. get_or l k None) made ∙ none_at g.F.Fn c.args.f.now count k in
    record {
      same = ap length made ∙ length-replicate count None ∙ c.buckets-count.ensures ∙ many;
      within = omega (arith, next.within, many);
      full = λ p. next.full (omega (arith, p, many));
      copied = λ k p.
          let gone = none_by _ _ (c.requires.laid_out.agrees k (omega (arith, p, next.within, many)))
          (next.between k (omega arith) p) in
          rw gone (none k);
      ahead = λ p. c.next-b.ensures.ahead 0 c.of-walk.ensures (omega (arith, p, many));
      others = λ k p. none k;
    }

pub drop_first-requires-clause-agrees : goal.drop_first-requires-clause-agrees
drop_first-requires-clause-agrees g c = λ b p.
    let l = c.entries.invariant in
    copy_agrees g.F.Fn c.args.f.now _ _ _ (l.copied b p)
    (c.requires.laid_out.agrees b (omega (arith, p, l.within)))

pub entries-preserved : goal.entries-preserved
entries-preserved g c =
    let at = c.entries in
    let l = at.invariant in
    let many = buckets_of-laid_out _ _ c.requires.laid_out in
    let here = l.ahead (omega (arith, many, c.entries-test.true, c.buckets-count.ensures)) in
    let next = c.next-b-in-entries.ensures.next (at.b + 1) here in
    rw c.write.ensures record {
      same = length-set _ _ _ ∙ l.same;
      within = omega (arith, next.within, many);
      full = λ p. next.full (omega (arith, p, many));
      copied = λ k p. elim (dec_lt k at.b) [
        | yes before ↦ rw (get_or-set_other at.copies at.b k (Some c.in-Ok.copy) None (omega arith)) (l.copied k before)
        | no from ↦ elim (dec_lt at.b k) [
          | yes after ↦
              let gone = none_by _ _ (c.requires.laid_out.agrees k (omega (arith, p, next.within, many)))
              (next.between k (omega (arith, after)) p) in
              rw gone (get_or-set_other at.copies at.b k (Some c.in-Ok.copy) None (omega (arith, after))
              ∙ l.others k (omega (arith, after)))
          | no upto ↦
              let same : k ≡ at.b = omega (arith, from, upto) in
              let there = get_or-set_same at.copies at.b (Some c.in-Ok.copy) None
              (omega (arith, l.same, many, c.entries-test.true, c.buckets-count.ensures)) in
              rw (same, c.get.ensures, there) (
                c.in-Ok.copy,
                record { shown = _; shows = refl; says = record { met = c.in-Ok.ensures } },
                refl,
              )
        ]
      ];
      ahead = λ p. c.next-b-in-entries.ensures.ahead (at.b + 1) here (omega (arith, p, many));
      others = λ k p. get_or-set_other _ _ k _ None (omega (arith, p, next.bound)) ∙ l.others k
          (omega (arith, p, next.bound));
    }

pub entries-smaller : goal.entries-smaller
entries-smaller g c =
    let at = c.entries in
    let many = buckets_of-laid_out _ _ c.requires.laid_out in
    let here = at.invariant.ahead (omega (arith, many, c.entries-test.true, c.buckets-count.ensures)) in
    let next = c.next-b-in-entries.ensures.next (at.b + 1) here in
    omega (arith, next.bound, many, c.entries-test.true, c.buckets-count.ensures)

pub returns : goal.returns
returns g c =
    let l = c.entries.invariant in
    let many = buckets_of-laid_out _ _ c.requires.laid_out in
    place_copies g.F.Fn c.args.f.now _ _ l.same
    (λ k p. l.copied k (omega (arith, p, many, c.entries-test.false, c.buckets-count.ensures)))
