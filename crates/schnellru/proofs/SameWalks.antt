-- Walks of the same map at the same positions are equal, because proofs of the same fact are equal.
use Rattle.std.proofs.Common.{◌≡◌, ℕ, ◌≤◌, Option, length, sym, ◌∙◌, subst}
use Rattle.std.specs.Prelude.{slice_get}
use Rattle.std.specs.Borrow.{MutBor}
use Rattle.std.specs.Coded.{Coded-set, coded_option, coded_ℕ, le_prop}
use Rattle.std.specs.declared.cmp.PartialEq as equality
use Rattle.std.specs.declared.hash.Hash as hashing
use Rattle.std.specs.declared.hash.Hasher as hasher
use Rattle.std.specs.declared.hash.BuildHasher as builder
use Rattle.lru_limits.specs.declared.keys.KeyHasher as key_hasher
use Rattle.group_table.specs.declared.link.LinkType as link_type
use Rattle.lru_limits.specs.declared.limiter.Limiter as limiter
use Rattle.lru_model.specs.Lists.{last_of}
use Rattle.lru_model.specs.State.{State}
use Rattle.schnellru.specs.declared.walk.iter_mut.IterMut.{IterMut}

module _ {K V L S N H : Type 0} {equal : equality.Ghosts K} {input : hashing.Ghosts K} {limits : limiter.Ghosts L K V N}
    {links : link_type.Ghosts N}
    {keyed : key_hasher.Ghosts S K H} {build : builder.Ghosts S H} {hash : hasher.Ghosts H} where
  abbrev walk : (m : MutBor (State K V L S)) (start end : ℕ) (front back : Option ℕ) → end ≤ length m.now.table.places
      → front ≡ slice_get m.now.table.places start → back ≡ last_of end m.now.table.places
      → IterMut K V L S N H equal input limits links keyed build hash
  walk m start end front back within first last = record {
    map = m;
    start = start;
    end = end;
    front = front;
    back = back;
    within = within;
    first = first;
    last = last;
  }

  pub same_walk : {m : MutBor (State K V L S)} {start end : ℕ} {front back other another : Option ℕ}
      {within again : end ≤ length m.now.table.places}
      {first : front ≡ slice_get m.now.table.places start} {last : back ≡ last_of end m.now.table.places}
      {first' : other ≡ slice_get m.now.table.places start} {last' : another ≡ last_of end m.now.table.places}
      → walk m start end front back within first last ≡ walk m start end other another again first' last'
  same_walk {m} {start} {end} {front} {back} {other} {another} {within} {again} {first} {last} {first'} {last'} =
      subst (λ o. (h : o ≡ slice_get m.now.table.places start) → walk m start end front back within first last
      ≡ walk m start end o another again h last') (first ∙ sym first')
      (λ h. subst (λ o. (k : o ≡ last_of end m.now.table.places) → walk m start end front back within first last
      ≡ walk m start end front o again h k) (last ∙ sym last')
      (λ k. (λ i. walk m start end front back (le_prop within again i) (Coded-set (coded_option coded_ℕ) _ _ first h i)
      (Coded-set (coded_option coded_ℕ) _ _ last k i))) last') first'
