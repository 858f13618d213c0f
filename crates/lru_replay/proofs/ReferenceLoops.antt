-- For callers: a loop that makes one reference for each key of a trace, and a loop that copies a text.
use Rattle.std.proofs.Common.{◌≡◌, ℕ, ◌+◌, ◌≤◌, ◌<◌, Bool, true, false, cond, List, [], ◌∷◌, ◌++◌, length, take, get_or}
use Rattle.std.proofs.Common.{Some, None, refl, sym, ap, ◌∙◌, subst, arith}
use Rattle.std.proofs.lemmas.Cmp.{nat_list_eq_equiv}
use Rattle.std.proofs.lemmas.List.{take_all, take_more}
use Rattle.std.specs.Str.{bytes_eq}
use Rattle.std.specs.String.{string_eq, string_bytes}
use Rattle.std.specs.declared.alloc.Global.{Global}
use Rattle.std.specs.declared.string.String.{String}
use Rattle.lru_model.proofs.CallerLemmas.{no_pair}
use Rattle.lru_model.specs.Lists.{keys_of, lookup, without}
use Rattle.lru_model.specs.State.{State}
use Rattle.lru_theory.specs.Traces.{is_in, fault, refer}
use Rattle.lru_replay.specs.References.{Cache, Reference, Referenced, begins, refers, reads}
use Rattle.lru_replay.proofs.StoredCounts.{there, absent, value_there, keys_taken, keys_without}

module _ {K V : Type 0} (eq : K → K → Bool) (key : K) where
  pub fault_found : (pairs : List (K × V)) (value : V) → lookup (eq key) pairs ≡ Some value
      → 0 ≡ fault eq key (keys_of pairs)
  fault_found pairs value found =
      let p = value_there (eq key) pairs value found in
      ap (λ b. cond b 0 1) (sym (there (eq key) pairs p.0 p.1))

  pub keys_referred : (n : ℕ) (value : V) (pairs : List (K × V))
      → keys_of (take n ((key, value) ∷ without (eq key) pairs)) ≡ refer eq n key (keys_of pairs)
  keys_referred n value pairs =
      keys_taken n ((key, value) ∷ without (eq key) pairs) ∙ ap (λ ks. take n (key ∷ ks)) (keys_without (eq key) pairs)

  pub fault_absent : (pairs : List (K × V)) → lookup (eq key) pairs ≡ None → 1 ≡ fault eq key (keys_of pairs)
  fault_absent pairs none = ap (λ b. cond b 0 1) (sym (absent (eq key) pairs (no_pair (eq key) pairs none)))

module _ {K V S H : Type 0} (cache : Cache K V S H) where
  -- a loop has made the references to the first i keys of a trace
  pub record Loops (old : State K V S H) (trace : List K) (i missed : ℕ) (new : State K V S H) : Type 0 where
    pub run : Referenced cache old (take i trace) missed new
    pub limit : cache.limit new.limiter ≡ cache.limit old.limiter
    pub keeps : cache.Keeps new
    pub few : missed ≤ i

module _ {K V S H : Type 0} {cache : Cache K V S H} {old : State K V S H} {trace : List K} where
  pub loop_begins : cache.Keeps old → Loops cache old trace 0 0 old
  loop_begins keeps = record { run = begins; limit = refl; keeps = keeps; few = omega arith }

  pub loop_goes_on : {i missed : ℕ} {key : K} {mid new : State K V S H} (more : ℕ) → Loops cache old trace i missed mid
      → i < length trace → key ≡ get_or trace i key → Reference cache key mid new
      → more ≡ fault cache.eq key (keys_of mid.pairs) → Loops cache old trace (i + 1) (missed + more) new
  loop_goes_on {i} {missed} {key} {mid} {new} more loop less is h counted =
      let longer : take (i + 1) trace ≡ take i trace ++ key ∷ [] =
      take_more trace i key less ∙ ap (λ one. take i trace ++ one ∷ []) (sym is) in record {
        run = rw (longer, counted) (refers key (take i trace) missed mid new loop.run h);
        limit = h.does.limit ∙ loop.limit;
        keeps = h.does.keeps loop.keeps;
        few = omega (arith, loop.few, counted, one (is_in cache.eq key (keys_of mid.pairs)));
      }
    where
      one : (b : Bool) → cond b 0 1 ≤ 1
      one true = omega arith
      one false = omega arith

  pub loop_ends : {i missed : ℕ} {new : State K V S H} → Loops cache old trace i missed new → length trace ≤ i
      → Referenced cache old trace missed new
  loop_ends {i} {missed} {new} loop all =
      subst (λ t. Referenced cache old t missed new) (take_all i trace all) loop.run

module _ {K V S H : Type 0} {cache : Cache K V S H} {old : State K V S H} where
  pub keeps_after : (trace : List K) (missed : ℕ) (new : State K V S H) → Referenced cache old trace missed new
      → cache.Keeps old → cache.Keeps new
  keeps_after _ _ _ begins keeps = keeps
  keeps_after _ _ _ (refers key trace missed mid new run h) keeps = h.does.keeps (keeps_after trace missed mid run keeps)
  keeps_after _ _ _ (reads trace missed mid new run h) keeps = h.does.keeps (keeps_after trace missed mid run keeps)

  pub hit : (trace : List K) (missed : ℕ) (key : K) (w : V) (mid new : State K V S H)
      → Referenced cache old trace missed mid → lookup (cache.eq key) mid.pairs ≡ Some w → Reference cache key mid new
      → Referenced cache old (trace ++ key ∷ []) missed new
  hit trace missed key w mid new run found h = subst (λ n. Referenced cache old (trace ++ key ∷ []) n new)
      (omega (arith, fault_found cache.eq key mid.pairs w found)) (refers key trace missed mid new run h)

  pub miss : (trace : List K) (missed : ℕ) (key : K) (mid new : State K V S H)
      → Referenced cache old trace missed mid → lookup (cache.eq key) mid.pairs ≡ None → Reference cache key mid new
      → Referenced cache old (trace ++ key ∷ []) (missed + 1) new
  miss trace missed key mid new run none h = subst (λ n. Referenced cache old (trace ++ key ∷ []) n new)
      (omega (arith, fault_absent cache.eq key mid.pairs none)) (refers key trace missed mid new run h)

pub copy_equal : (copy text : String Global) → string_bytes copy ≡ string_bytes text → string_eq copy text ≡ true
copy_equal copy text same =
    ap (λ bytes. bytes_eq bytes (string_bytes text)) same ∙ nat_list_eq_equiv.refl (string_bytes text)
