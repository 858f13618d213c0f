use Rattle.group_table.proofs.LayoutLemmas.{length-laid_out}
use Rattle.group_table.proofs.FindLemmas.{GoesPast-none, group_starts, Finds-here, FindsNone-here, GoesPast-here}
use Rattle.group_table.proofs.probe.find_bucket.Goals as goal

pub returns-in-Accepted-clause-found : goal.returns-in-Accepted-clause-found
returns-in-Accepted-clause-found g c =
    let some = c.requires.some_empty in
    Finds-here g.F.FnMut _ _ c.requires.laid_out some _ _ c.of-probe.ensures.at _ _ _
    (GoesPast-none g.F.FnMut _ _ c.requires.laid_out some _ _ _ c.of-probe.ensures.none_passed) _
    c.tag_of-tag.ensures.value _ c.in-Accepted.ensures.asked

pub returns-in-Ended-clause-none : goal.returns-in-Ended-clause-none
returns-in-Ended-clause-none g c =
    let some = c.requires.some_empty in
    FindsNone-here g.F.FnMut _ _ c.requires.laid_out some _ _ c.of-probe.ensures.at _ _ _
    (GoesPast-none g.F.FnMut _ _ c.requires.laid_out some _ _ _ c.of-probe.ensures.none_passed) _
    c.tag_of-tag.ensures.value c.in-Ended.ensures.asked

pub groups-init : goal.groups-init
groups-init g c =
    let some = c.requires.some_empty in
    let past = GoesPast-here g.F.FnMut _ _ c.requires.laid_out some _ _ c.of-probe.ensures.at _ _ _
    (GoesPast-none g.F.FnMut _ _ c.requires.laid_out some _ _ _ c.of-probe.ensures.none_passed) _
    c.tag_of-tag.ensures.value c.in-GoesOn.ensures.asked in
    record {
      callable = c.in-GoesOn.ensures.callable;
      at = c.of-probe.ensures.at;
      within = rw (length-laid_out _ _ c.requires.laid_out) at past.within;
      past = past;
    }

pub search_group-requires-in-groups-clause-start : goal.search_group-requires-in-groups-clause-start
search_group-requires-in-groups-clause-start g c =
    group_starts g.F.FnMut _ _ c.requires.laid_out c.requires.some_empty _ _
    (c.go_on.ensures.at c.args.hash c.groups.invariant.at)

pub returns-in-Accepted-search_group-clause-found : goal.returns-in-Accepted-search_group-clause-found
returns-in-Accepted-search_group-clause-found g c =
    Finds-here g.F.FnMut _ _ c.requires.laid_out c.requires.some_empty _ _
    (c.go_on.ensures.at c.args.hash c.groups.invariant.at) _ _ _
    (rw c.go_on.ensures.passed c.groups.invariant.past) _ c.tag_of-tag.ensures.value _
    c.in-Accepted-search_group.ensures.asked

pub returns-in-Ended-search_group-clause-none : goal.returns-in-Ended-search_group-clause-none
returns-in-Ended-search_group-clause-none g c =
    FindsNone-here g.F.FnMut _ _ c.requires.laid_out c.requires.some_empty _ _
    (c.go_on.ensures.at c.args.hash c.groups.invariant.at) _ _ _
    (rw c.go_on.ensures.passed c.groups.invariant.past) _ c.tag_of-tag.ensures.value
    c.in-Ended-search_group.ensures.asked

pub groups-preserved : goal.groups-preserved
groups-preserved g c =
    let at = c.go_on.ensures.at c.args.hash c.groups.invariant.at in
    let past = GoesPast-here g.F.FnMut _ _ c.requires.laid_out c.requires.some_empty _ _ at _ _ _
    (rw c.go_on.ensures.passed c.groups.invariant.past) _ c.tag_of-tag.ensures.value
    c.in-GoesOn-search_group.ensures.asked in
    record {
      callable = c.in-GoesOn-search_group.ensures.callable;
      at = at;
      within = rw (length-laid_out _ _ c.requires.laid_out) at past.within;
      past = past;
    }
