-- `places::side_of`: what the survey, the ends of the root and the follow sets make is the side (`Made`).
use Rattle.std.proofs.Common.{◌≡◌, ◌≤◌, length, take, arith}
use Rattle.places.specs.Places.{numbered}
use Rattle.places.specs.Walk.{table_of, Walkable}
use Rattle.places.proofs.Made.{surveyable, walkable, skeleton-is, side-made}
use Rattle.places.proofs.side_of.Goals as goal
use Rattle.places.proofs.side_of.Goals.{After-survey-count}

-- once the nodes are surveyed: the skeleton has room for them, and its first nodes are the numbered table
fits : (c : After-survey-count) → length c.args.nodes.now ≤ length c.survey-count.new.skeleton
fits c =
    omega (arith, c.survey-count.auto.skeleton, (surveyable c.args.s c.args.nodes.now c.requires).fits)

is-numbered : (c : After-survey-count)
    → take (length c.args.nodes.now) c.survey-count.new.skeleton ≡ numbered (table_of c.args.nodes.now)
is-numbered c = skeleton-is c.args.s c.args.nodes.now c.requires _ (fits c) c.survey-count.ensures.numbers

can-walk : (c : After-survey-count) → Walkable (take (length c.args.nodes.now) c.survey-count.new.skeleton)
can-walk c = rw (is-numbered c) (walkable c.args.s c.args.nodes.now c.requires)

pub survey-count-requires : goal.survey-count-requires
survey-count-requires c = surveyable c.args.s c.args.nodes.now c.requires

pub invariant_of-numbered : goal.invariant_of-numbered
invariant_of-numbered c = record { walkable = can-walk (goal.at.invariant_of-numbered c).After-survey-count }

pub returns : goal.returns
returns c =
    let a = c.args in
    let s = (goal.at.returns c).After-survey-count in
    side-made a.s a.nodes.now c.requires c.survey-count.result c.ends_of-ends.result c.follow_sets-follow.result _ c.survey-count.ensures.masks
    (rw (is-numbered s) at c.ends_of-ends.ensures) (rw (is-numbered s) at c.follow_sets-follow.ensures) c.only_if.ensures
