use Rattle.std.proofs.Common.{◌≡◌, ◌+◌, ◌<◌, ◌≤◌, length, get_or, None, refl, sym, ap, ◌∙◌, inr, arith}
use Rattle.std.proofs.lemmas.List.{length-replicate}
use Rattle.group_table.proofs.LayoutLemmas.{some_by, none_by}
use Rattle.group_table.proofs.FreeBytes.{free_bytes-fewer}
use Rattle.group_table.proofs.HalfwayLemmas.{buckets_now, IsHalfway-start, IsHalfway-placed, IsHalfway-none}
use Rattle.group_table.proofs.HalfwayLemmas.{stood_there, IsInTurn-taken}
use Rattle.group_table.proofs.HalfwayLemmas.{IsValid-last, none_deleted_last, Moves-last, hashes_last}
use Rattle.group_table.proofs.TurnLemmas.{now_length, some_free, put_into, IsInTurn-next}
use Rattle.group_table.proofs.TurnLemmas.{IsHalfway-stays}
use Rattle.group_table.proofs.WaitLemmas.{agrees_before, stays_past, stays_taken, stays_tagged, stays_put, none_waits}
use Rattle.group_table.proofs.table.in_place.place_again.Goals.{
  then-byte-lt-DELETED-via-then-byte-lt-DELETED,
  then-byte-lt-DELETED-via-else-byte-lt-DELETED+then-byte-ge-DELETED,
  then-place-b,
  else-place-b,
}
use Rattle.group_table.proofs.table.in_place.place_again.Goals as goal

pub loop-b-init : goal.loop-b-init
loop-b-init g c =
    let whole = c.args.entries.now in
    let r = c.requires in
    let m : length c.args.control.now ≡ length whole + 16 =
    ap length r.cleared ∙ length-replicate (length whole + 16) _ in
    record {
      half = rw r.cleared (IsHalfway-start g.N.LinkType.number g.N.LinkType.MAX _ whole c.args.links.now.items
          (length whole + 16) r.count refl (omega (arith, m, r.fits)) r.one_each r.none_linked);
      stays = λ b from within free. refl;
    }

pub loop-b-preserved-then-byte-lt-DELETED : goal.loop-b-preserved-then-byte-lt-DELETED
loop-b-preserved-then-byte-lt-DELETED g c =
    let l = c.loop-b.invariant in
    let whole = c.args.entries.now in
    let within : c.loop-b.b < length whole = omega arith in
    record {
      half = elim c.then-byte-lt-DELETED.branch [
        | then-byte-lt-DELETED-via-then-byte-lt-DELETED w ↦
            IsHalfway-placed g.N.LinkType.number g.N.LinkType.MAX _ whole _ _ _ c.loop-b.b l.half within
            (rw (← c.byte.ensures) w.if-byte-lt-DELETED.true)
        | then-byte-lt-DELETED-via-else-byte-lt-DELETED+then-byte-ge-DELETED w ↦
            let free : 128 ≤ get_or c.loop-b.control c.loop-b.b 0 =
            rw (← c.byte.ensures) w.if-byte-lt-DELETED.false in
            let none : 128 ≤ get_or c.args.before.now c.loop-b.b 0 =
            rw (← w.byte-else-byte-lt-DELETED.ensures) w.if-byte-ge-DELETED.true in
            IsHalfway-none g.N.LinkType.number g.N.LinkType.MAX _ whole _ _ _ c.loop-b.b l.half
            (none_by _ _
            (agrees_before whole _ _ _ l.stays _ c.requires.before c.loop-b.b (omega arith) within free) none)
      ];
      stays = stays_past whole _ _ c.loop-b.b l.stays;
    }

pub get-requires : goal.get-requires
get-requires g c =
    let free : 128 ≤ get_or c.loop-b.control c.loop-b.b 0 = rw (← c.byte.ensures) c.if-byte-lt-DELETED.false in
    let agrees = agrees_before c.args.entries.now _ _ _ c.loop-b.invariant.stays _ c.requires.before c.loop-b.b
    (omega arith) (omega arith) free in
    some_by _ _ agrees (rw (← c.byte-else-byte-lt-DELETED.ensures) c.if-byte-ge-DELETED.false)

pub loop-b-preserved-then-is_read_first : goal.loop-b-preserved-then-is_read_first
loop-b-preserved-then-is_read_first g c =
    let half = c.loop-b.invariant.half in
    let whole = c.args.entries.now in
    let byte : 128 ≤ get_or c.loop-b.control c.loop-b.b 0 = rw (← c.byte.ensures) c.if-byte-lt-DELETED.false in
    let stood = stood_there g.N.LinkType.number g.N.LinkType.MAX _ whole _ _ _ c.loop-b.b half c.get.result.now byte
    c.get.ensures in
    let stays = IsHalfway-stays g.N.LinkType.number g.N.LinkType.MAX g.N.LinkType.link g.met.N.LinkType.laws _ whole _
    _ _ c.loop-b.b c.get.result.now half c.requires.within c.requires.below byte c.get.ensures
    c.hash_of-hash.result c.tag_of.result
    (c.is_read_first.ensures.0 c.if-is_read_first.true) c.tag_of.ensures.value c.tag_of.ensures.tag
    (λ hash_at given. given c.loop-b.b _ _ stood
    (record { shown = _; shows = refl; says = record { met = c.hash_of-hash.ensures } })) in
    rw (c.set.ensures, c.from_usize.ensures, buckets_now half) record {
      half = stays;
      stays = stays_tagged whole _ _ _ (stays_past whole _ _ c.loop-b.b c.loop-b.invariant.stays) c.loop-b.b _
          half.now_length (omega arith);
    }

pub turns-init : goal.turns-init
turns-init g c =
    let half = c.loop-b.invariant.half in
    let whole = c.args.entries.now in
    let byte : 128 ≤ get_or c.loop-b.control c.loop-b.b 0 = rw (← c.byte.ensures) c.if-byte-lt-DELETED.false in
    let stood = stood_there g.N.LinkType.number g.N.LinkType.MAX _ whole _ _ _ c.loop-b.b half c.get.result.now byte
    c.get.ensures in
    let taken = IsInTurn-taken g.N.LinkType.number g.N.LinkType.MAX _ whole _ _ _ c.loop-b.b half byte in
    rw c.read.ensures.places record {
      turn = rw c.read.ensures.entry at taken;
      hashed = λ entry is hash_at given. given c.loop-b.b _ _ stood
          (record { shown = _; shows = refl; says = record { met = c.hash_of-hash.ensures } });
      stays = stays_taken whole _ _ _ (stays_past whole _ _ c.loop-b.b c.loop-b.invariant.stays) c.loop-b.b None
          (omega arith);
    }

pub first_free-place-requires : goal.first_free-place-requires
first_free-place-requires g c =
    let l = c.turns in
    let turn = rw c.in-Some.is at l.invariant.turn in
    let w = some_free c.args.entries.now _ turn.1 turn.0 c.requires.within in
    (w.0, rw (buckets_now turn.1) (w.1), w.2)

pub put-next-requires-clause-bucket : goal.put-next-requires-clause-bucket
put-next-requires-clause-bucket g c =
    let turn = rw c.in-Some.is at c.turns.invariant.turn in
    let put = put_into c.args.entries.now _ turn.1 turn.0 c.requires.within c.first_free-place.ensures in
    omega (arith, put.in_whole, put.in_now)

pub from_usize-requires-in-Some : goal.from_usize-requires-in-Some
from_usize-requires-in-Some g c =
    let turn = rw c.in-Some.is at c.turns.invariant.turn in
    let put = put_into c.args.entries.now _ turn.1 turn.0 c.requires.within c.first_free-place.ensures in
    omega (arith, put.in_whole, c.requires.below)

pub put-next-requires-clause-agrees : goal.put-next-requires-clause-agrees
put-next-requires-clause-agrees g c =
    let l = c.turns in
    let turn = rw c.in-Some.is at l.invariant.turn in
    let whole = c.args.entries.now in
    let put = put_into whole _ turn.1 turn.0 c.requires.within c.first_free-place.ensures in
    elim c.if-place-b.branch [
      | then-place-b w ↦
          let none = none_waits {number = g.N.LinkType.number} {none = g.N.LinkType.MAX} turn.1
          c.first_free-place.result (omega arith) (omega (arith, put.in_whole)) put.reached.1 in
          rw (w.byte-is, none) (inr refl)
      | else-place-b w ↦
          rw (w.byte-is, w.byte-byte.ensures)
          (agrees_before whole _ _ _ l.invariant.stays _ c.requires.before c.first_free-place.result (omega arith)
          put.in_whole put.reached.1)
    ]

pub turns-smaller : goal.turns-smaller
turns-smaller g c =
    let turn = rw c.in-Some.is at c.turns.invariant.turn in
    let put = put_into c.args.entries.now _ turn.1 turn.0 c.requires.within c.first_free-place.ensures in
    rw c.put-next.ensures.control
    (free_bytes-fewer c.tag_of-in-Some.result c.tag_of-in-Some.ensures.tag c.turns.control c.turns.entries
    c.first_free-place.result put.in_control put.reached.1)

pub turns-preserved : goal.turns-preserved
turns-preserved g c =
    let l = c.turns in
    let turn = rw c.in-Some.is at l.invariant.turn in
    let whole = c.args.entries.now in
    let put = put_into whole _ turn.1 turn.0 c.requires.within c.first_free-place.ensures in
    let next = IsInTurn-next whole _ turn.1 turn.0 c.requires.within
    g.N.LinkType.link g.met.N.LinkType.laws c.requires.below l.hash c.first_free-place.result c.tag_of-in-Some.result
    put.reached c.tag_of-in-Some.ensures.value c.tag_of-in-Some.ensures.tag
    (l.invariant.hashed _ c.in-Some.is) in
    record {
      turn = rw (
        c.put-next.ensures.stood,
        c.put-next.ensures.entries,
        c.put-next.ensures.control,
        c.from_usize-in-Some.ensures,
      ) next;
      hashed = λ entry is hash_at given. absurd (c.in_default-next.not-Some entry is);
      stays = rw (c.put-next.ensures.entries, c.put-next.ensures.control)
          (stays_put whole _ _ _ l.invariant.stays c.first_free-place.result c.tag_of-in-Some.result
          (now_length whole _ turn.1 turn.0 c.requires.within) _ put.in_control put.in_now
          c.tag_of-in-Some.ensures.tag);
    }

pub turns-smaller-in-Some-next : goal.turns-smaller-in-Some-next
turns-smaller-in-Some-next g c =
    let turn = rw c.in-Some.is at c.turns.invariant.turn in
    let put = put_into c.args.entries.now _ turn.1 turn.0 c.requires.within c.first_free-place.ensures in
    rw c.put-next.ensures.control
    (free_bytes-fewer c.tag_of-in-Some.result c.tag_of-in-Some.ensures.tag c.turns.control c.turns.entries
    c.first_free-place.result put.in_control put.reached.1)

pub turns-preserved-in-Some-next : goal.turns-preserved-in-Some-next
turns-preserved-in-Some-next g c =
    let l = c.turns in
    let turn = rw c.in-Some.is at l.invariant.turn in
    let whole = c.args.entries.now in
    let put = put_into whole _ turn.1 turn.0 c.requires.within c.first_free-place.ensures in
    let next = IsInTurn-next whole _ turn.1 turn.0 c.requires.within
    g.N.LinkType.link g.met.N.LinkType.laws c.requires.below l.hash c.first_free-place.result c.tag_of-in-Some.result
    put.reached c.tag_of-in-Some.ensures.value c.tag_of-in-Some.ensures.tag
    (l.invariant.hashed _ c.in-Some.is) in
    let then = rw (sym c.put-next.ensures.stood, c.in-Some-next.is) at next in
    record {
      turn = rw (
        c.put-next.ensures.stood,
        c.put-next.ensures.entries,
        c.put-next.ensures.control,
        c.from_usize-in-Some.ensures,
      ) next;
      hashed = λ entry is hash_at given. given c.first_free-place.result _ _ (then.0)
          (record { shown = _; shows = refl; says = record { met = c.hash_of-hash-in-Some-next.ensures } });
      stays = rw (c.put-next.ensures.entries, c.put-next.ensures.control)
          (stays_put whole _ _ _ l.invariant.stays c.first_free-place.result c.tag_of-in-Some.result
          (now_length whole _ turn.1 turn.0 c.requires.within) _ put.in_control put.in_now
          c.tag_of-in-Some.ensures.tag);
    }

pub returns-clause-valid : goal.returns-clause-valid
returns-clause-valid g c =
    let all : c.loop-b.b ≡ length c.args.entries.now = omega arith in
    IsValid-last g.N.LinkType.number g.N.LinkType.MAX _ c.args.entries.now _ _ _ (rw all at c.loop-b.invariant.half)

pub returns-clause-none_deleted : goal.returns-clause-none_deleted
returns-clause-none_deleted g c =
    let all : c.loop-b.b ≡ length c.args.entries.now = omega arith in
    none_deleted_last g.N.LinkType.number g.N.LinkType.MAX _ c.args.entries.now _ _ _
    (rw all at c.loop-b.invariant.half)

pub returns-clause-moves : goal.returns-clause-moves
returns-clause-moves g c =
    let all : c.loop-b.b ≡ length c.args.entries.now = omega arith in
    Moves-last g.N.LinkType.number g.N.LinkType.MAX _ c.args.entries.now _ _ _ (rw all at c.loop-b.invariant.half)

pub returns-clause-hashes : goal.returns-clause-hashes
returns-clause-hashes g c =
    let all : c.loop-b.b ≡ length c.args.entries.now = omega arith in
    hashes_last g.N.LinkType.number g.N.LinkType.MAX _ c.args.entries.now _ _ _ (rw all at c.loop-b.invariant.half)
