use Rattle.std.proofs.Common.{◌≡◌, ◌+◌, ◌-◌, suc, false, sym, ap, ◌∙◌, subst, inl, inr, Result, Ok, Err, arith}
use Rattle.std.proofs.lemmas.Bool.{true≢false}
use Rattle.std.proofs.lemmas.Result.{err_from_is_err_and}
use Rattle.lru_caches.specs.Pages.{ReadsPage, ReadsPages, ReadFails, IsCached}
use Rattle.lru_caches.proofs.Blocks.{good-before}
use Rattle.lru_caches.proofs.page_cache.PageCache.prefetch.Goals as goal

abbrev error_or : {A E : Type 0} → E → Result A E → E
error_or e (Ok x) = e
error_or e (Err other) = other

pub loop-n-preserved : goal.loop-n-preserved
loop-n-preserved g c =
    let d = g.D.BlockDevice in
    let start = c.args.blocks.start in
    let n = c.loop-n.n in
    let h = c.loop-n.invariant in
    let old = c.loop-n.self in
    let new = c.bring.new.self in
    let did = c.in_ok-bring.ensures in
    let (block, shows, pages) = did.page in
    let one : n + 1 - start ≡ suc (n - start) = omega (arith, h.from) in
    let at : start + (n - start) ≡ n = omega (arith, h.from) in
    let usable : d.is_usable old.device ≡ false → IsCached n old =
    λ unusable. elim (did.broken unusable) [ inl cached ↦ cached | inr failed ↦ cc ] in
    record {
      from = omega (arith, h.from);
      to = inl (omega (arith, c.loop-n-test.true));
      reads = subst (λ k. ReadsPages d start k c.args.self.now new) (sym one) (
        old,
        h.reads,
        subst (λ m. ReadsPage d m old new) (sym at)
            (record { block = block; shows = shows; pages = pages; usable = usable; uses = did.uses }),
      );
      keeps = λ good m b is. did.keeps good m b (h.keeps (good-before d old.device new.device did.uses.serves good) m b is);
      capacity = did.uses.capacity ∙ h.capacity;
      mode = did.uses.mode ∙ h.mode;
    }

pub returns-in_err-bring-clause-failed : goal.returns-in_err-bring-clause-failed
returns-in_err-bring-clause-failed g c =
    let d = g.D.BlockDevice in
    let start = c.args.blocks.start in
    let n = c.loop-n.n in
    let h = c.loop-n.invariant in
    let at : start + (n - start) ≡ n = omega (arith, h.from) in
    let failed = err_from_is_err_and c.from_residual.result c.from_residual.ensures.1 in
    let did = c.in_err-bring.ensures in
    let absent : IsCached n c.loop-n.self → ⊥ = λ cached. true≢false (sym (did.hit cached)) in
    rw (failed.1, failed.2) (
      n - start,
      omega (arith, h.from, c.loop-n-test.true),
      c.loop-n.self,
      h.reads,
      subst (λ m. ReadFails d m c.loop-n.self c.in_err-bring.field-0.0 c.bring.new.self) (sym at) (record {
        absent = absent;
        broken = λ unusable. elim (did.broken unusable) [
          | inl cached ↦ absurd (absent cached)
          | inr failed ↦ ap (error_or c.in_err-bring.field-0.0) failed
        ];
        uses = did.uses;
      }),
    )

pub returns-clause-reads : goal.returns-clause-reads
returns-clause-reads g c =
    let start = c.args.blocks.start in
    let h = c.loop-n.invariant in
    let all : c.loop-n.n - start ≡ c.args.blocks.end - start = elim h.to [
      | inl within ↦ omega (arith, h.from, within, c.loop-n-test.false)
      | inr same ↦ omega (arith, same, c.loop-n-test.false)
    ] in
    subst (λ k. ReadsPages g.D.BlockDevice start k c.args.self.now c.loop-n.self) all h.reads
