-- What a contract says of an `IterMut`, also after a loan of a value has ended.
use Rattle.std.proofs.Common.{refl, arith}
use Rattle.std.specs.Prelude.{ℕ, ◌+◌, ◌-◌, ◌≤◌, [], length, slice_get, Option, None, Some, if◌then◌else◌, nat_lt}
use Rattle.std.specs.Borrow.{Fml, GName, RattleType, Bor, MutBor, follows, follows_if}
use Rattle.std.specs.HashMap.Lent.{HashMembers}
use Rattle.std.specs.declared.cmp.PartialEq as equality
use Rattle.std.specs.declared.hash.Hash as hashing
use Rattle.std.specs.declared.hash.Hasher as hasher
use Rattle.std.specs.declared.hash.BuildHasher as builder
use Rattle.lru_limits.specs.declared.keys.KeyHasher as key_hasher
use Rattle.lru_limits.specs.Hashing.{HasherMembers}
use Rattle.group_table.specs.declared.link.LinkType as link_type
use Rattle.lru_limits.specs.declared.limiter.Limiter as limiter
use Rattle.lru_model.specs.Lists.{set_value_at, last_of}
use Rattle.lru_model.specs.State.{State}
use Rattle.schnellru.specs.declared.walk.iter_mut.IterMut.{IterMut}
use Rattle.schnellru.specs.contracts.walk.iter_mut.IterMut.{the_row}
use mir.Syntax.{named}
use mathlib.Core.Option as maybe

pub one_less : (n m : ℕ) → n ≤ m → n - 1 ≤ m
one_less n m h = omega (arith, h)

abbrev pub lent_name : {K V : Type 0} → Option (Bor K × MutBor V) → maybe.Option GName
lent_name (Some pair) = maybe.some pair.1.ghost_name
lent_name None = maybe.none

-- `walk` is an `IterMut`; the other parameters are parts of its type
module _ {K V L S N H : Type 0} {equal : equality.Ghosts K} {input : hashing.Ghosts K} {limits : limiter.Ghosts L K V N}
    {links : link_type.Ghosts N}
    {keyed : key_hasher.Ghosts S K H} {build : builder.Ghosts S H} {hash : hasher.Ghosts H}
    (walk : IterMut K V L S N H equal input limits links keyed build hash) where
  abbrev pub walk_map : State K V L S
  walk_map = walk.map.now

  abbrev pub walk_lender : GName
  walk_lender = walk.map.ghost_name

  -- the remaining pairs are at the positions from `walk_start` to `walk_end - 1`
  abbrev pub walk_start : ℕ
  walk_start = walk.start

  abbrev pub walk_end : ℕ
  walk_end = walk.end

  -- the walk's reference to the map, after the caller wrote the value w to the pair at a position
  abbrev pub walk_written : ℕ → V → MutBor (State K V L S)
  walk_written at w = record walk.map { now = record walk.map.now { pairs = set_value_at walk.map.now.pairs at w } }

  -- The walk after it lent the first remaining pair, and the caller wrote w. `walk_after_last` says the same of the
  -- last remaining pair.
  abbrev pub walk_after_first : V → IterMut K V L S N H equal input limits links keyed build hash
  walk_after_first w = record walk {
    map = walk_written walk.start w;
    start = walk.start + 1;
    front = slice_get walk.map.now.table.places (walk.start + 1);
    first = refl;
  }

  abbrev pub walk_after_last : V → IterMut K V L S N H equal input limits links keyed build hash
  walk_after_last w = record walk {
    map = walk_written (walk.end - 1) w;
    end = walk.end - 1;
    back = last_of (walk.end - 1) walk.map.now.table.places;
    within = one_less walk.end (length walk.map.now.table.places) walk.within;
    last = refl;
  }

  abbrev pub next_pair : Option (K × V)
  next_pair = if nat_lt walk.start walk.end then slice_get walk.map.now.pairs walk.start else None

  abbrev pub next_back_pair : Option (K × V)
  next_back_pair = if nat_lt walk.start walk.end then slice_get walk.map.now.pairs (walk.end - 1) else None

module _ (K V L S N H : RattleType) (key : HashMembers K.Denot)
    (limits : limiter.Ghosts L.Denot K.Denot V.Denot N.Denot)
    (links : link_type.Ghosts N.Denot)
    (hashed : HasherMembers S.Denot K.Denot H.Denot) (hash : hasher.Ghosts H.Denot) where
  abbrev pub walk_row : RattleType
  walk_row = the_row (record { mir = named 1; lft = [] }) K V L S N H (record { eq = key.eq })
      (record { hash_input = key.hash_input }) limits links
      (record { hash_of = hashed.hash_of }) (record { build_hasher = hashed.build_hasher }) hash

  module _ (walk : MutBor (IterMut K.Denot V.Denot L.Denot S.Denot N.Denot H.Denot (record { eq = key.eq })
      (record { hash_input = key.hash_input }) limits
      links (record { hash_of = hashed.hash_of })
      (record { build_hasher = hashed.build_hasher }) hash)) where
    -- If pairs remained, the walk lends the first remaining pair until the borrow r ends. `lends_next_back` says the
    -- same of the last remaining pair.
    abbrev pub lends_next : Option (Bor K.Denot × MutBor V.Denot) → Fml
    lends_next r = follows_if walk_row V walk.ghost_name (lent_name r) (λ w. walk_after_first walk.now w) walk.now

    abbrev pub lends_first : Bor K.Denot × MutBor V.Denot → Fml
    lends_first r = follows walk_row V walk.ghost_name r.1.ghost_name (λ w. walk_after_first walk.now w)

    abbrev pub lends_next_back : Option (Bor K.Denot × MutBor V.Denot) → Fml
    lends_next_back r = follows_if walk_row V walk.ghost_name (lent_name r) (λ w. walk_after_last walk.now w) walk.now

    abbrev pub lends_last : Bor K.Denot × MutBor V.Denot → Fml
    lends_last r = follows walk_row V walk.ghost_name r.1.ghost_name (λ w. walk_after_last walk.now w)
