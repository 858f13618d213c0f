use Rattle.std.proofs.Common.{[], ◌∷◌, refl}
use Rattle.std.specs.String.{string_eq}
use Rattle.lru_theory.specs.Inclusion.{promotes, removes}
use Rattle.lru_replay.specs.References.{nothing, does_more}
use Rattle.lru_replay_tests.proofs.programs.keep_and_forget.Goals as goal

pub returns : goal.returns
returns c =
    let kept = c.args.kept.now in let gone = c.args.gone.now in let does = c.calls_change_the_keys.ensures in
    let small = c.args.small.now in let large = c.args.large.now in
    let first = c.promote.new.self in let second = c.promote-2.new.self in
    c.a_smaller_map_is_included.ensures.included (promotes kept ∷ removes gone ∷ []) small c.remove.new.self large
    c.remove-2.new.self
    (does_more (removes gone) (promotes kept ∷ []) first c.remove.new.self
    (does_more (promotes kept) [] small first nothing
    (does.promotes (string_eq kept) kept small first refl c.promote.ensures.map.sized c.promote.ensures.promoted))
    (does.removes (string_eq gone) gone c.remove.result first c.remove.new.self refl c.remove.ensures.map.sized
    c.remove.ensures.step))
    (does_more (removes gone) (promotes kept ∷ []) second c.remove-2.new.self
    (does_more (promotes kept) [] large second nothing
    (does.promotes (string_eq kept) kept large second refl c.promote-2.ensures.map.sized c.promote-2.ensures.promoted))
    (does.removes (string_eq gone) gone c.remove-2.result second c.remove-2.new.self refl c.remove-2.ensures.map.sized
    c.remove-2.ensures.step)) c.requires.ordered c.requires.included
