use Rattle.std.proofs.Common.{◌≡◌, refl, length, ap, sym, ◌∙◌, arith}
use Rattle.std.specs.Prelude.{option_map}
use Rattle.std.proofs.lemmas.List.{get_or_read}
use Rattle.ordered_table.proofs.Chains.MovedChain.{newest_place, oldest_place, newer_place, older_place, full_by_link}
use Rattle.ordered_table.proofs.Chains.MovedChain.{MovedUpTo-none, MovedUpTo-passed, MovedUpTo-more, IsChain-moved}
use Rattle.ordered_table.proofs.linked.chain.Chain.rewrite.Goals as goal
use Rattle.ordered_table.proofs.linked.chain.Chain.rewrite.Goals.{then-not-is_max, else-not-is_max}

pub loop-old-init : goal.loop-old-init
loop-old-init g c = record { links = MovedUpTo-none; newest = refl; oldest = refl; insertions = refl }

pub move_links-requires-clause-newer : goal.move_links-requires-clause-newer
move_links-requires-clause-newer g c l e =
    let link = get_or_read c.args.links.now c.loop-old.old c.index-links-old.result c.loop-old-test.true
    c.index-links-old.is g.N.LinkType.MAX in
    let leads = rw link at c.if-not-is_max.ensures in
    let there = full_by_link c.requires.moved.3 c.loop-old.old leads in
    let place = c.into_usize.ensures ∙ ap g.N.LinkType.number link in
    let kept = ap (option_map (λ x. x.newer)) (c.loop-old.invariant.links.rest c.loop-old.old (omega arith) leads) in
    newer_place g.met.N.LinkType.laws c.requires.moved.2 c.requires.moved.3 c.loop-old.old there l
    (sym kept ∙ (rw place at e))

pub move_links-requires-clause-older : goal.move_links-requires-clause-older
move_links-requires-clause-older g c l e =
    let link = get_or_read c.args.links.now c.loop-old.old c.index-links-old.result c.loop-old-test.true
    c.index-links-old.is g.N.LinkType.MAX in
    let leads = rw link at c.if-not-is_max.ensures in
    let there = full_by_link c.requires.moved.3 c.loop-old.old leads in
    let place = c.into_usize.ensures ∙ ap g.N.LinkType.number link in
    let kept = ap (option_map (λ x. x.older)) (c.loop-old.invariant.links.rest c.loop-old.old (omega arith) leads) in
    older_place g.met.N.LinkType.laws c.requires.moved.2 c.requires.moved.3 c.loop-old.old there l
    (sym kept ∙ (rw place at e))

pub loop-old-preserved : goal.loop-old-preserved
loop-old-preserved g c =
    let before = c.loop-old.invariant in
    let link = get_or_read c.args.links.now c.loop-old.old c.index-links-old.result c.loop-old-test.true
    c.index-links-old.is g.N.LinkType.MAX in
    elim c.if-not-is_max.branch [
      | then-not-is_max w ↦
          let leads = rw link at w.if-not-is_max.ensures in
          let moves = rw (w.into_usize.ensures ∙ ap g.N.LinkType.number link) at w.move_links.ensures.links in
          rw w.self-is (record {
            links = MovedUpTo-more before.links c.requires.moved.3 leads moves;
            newest = before.newest;
            oldest = before.oldest;
            insertions = w.move_links.ensures.insertions ∙ before.insertions;
          })
      | else-not-is_max w ↦
          let none = rw link at w.if-not-is_max.ensures in
          rw w.self-is (record {
            links = MovedUpTo-passed before.links none;
            newest = before.newest;
            oldest = before.oldest;
            insertions = before.insertions;
          })
    ]

pub moved_link-self-requires-clause-place : goal.moved_link-self-requires-clause-place
moved_link-self-requires-clause-place g c = rw c.loop-old.invariant.newest
    (newest_place g.met.N.LinkType.laws c.requires.moved.2 c.requires.moved.3)

pub moved_link-self-requires-2-clause-place : goal.moved_link-self-requires-2-clause-place
moved_link-self-requires-2-clause-place g c = rw c.loop-old.invariant.oldest
    (oldest_place g.met.N.LinkType.laws c.requires.moved.2 c.requires.moved.3)

pub returns-clause-chain : goal.returns-clause-chain
returns-clause-chain g c before order whole renumbers =
    let all : c.loop-old.old ≡ length c.args.links.now = omega arith in
    rw (
      c.moved_link-self.ensures,
      c.moved_link-self-2.ensures,
      c.loop-old.invariant.newest,
      c.loop-old.invariant.oldest,
    )
    (IsChain-moved g.met.N.LinkType.laws whole renumbers c.requires.reached (rw all at c.loop-old.invariant.links))
