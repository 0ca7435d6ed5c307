-- `Skeleton::ends_of`: each arm is a row of the three tables (`ends-row`); a child is a lower node, so the recursion ends.
use Rattle.std.proofs.Common.{ℕ, refl, ap, ap₂, ◌∙◌, false, true, inl, inr}
use Rattle.places.specs.declared.Ends.{Ends}
use Rattle.places.specs.Walk.{ends_by, sequence_ends, choice_ends}
use Rattle.places.proofs.ByNode.{ends-row, child-lower, single-place}
use Rattle.places.proofs.Skeleton.+ends_of.Goals as goal

pub ends_of-x-requires : goal.ends_of-x-requires
ends_of-x-requires t c = (child-lower c.args.self.now.walkable c.args.i c.in-Seq.ensures c.decreases (inl refl), tt)

pub ends_of-y-requires : goal.ends_of-y-requires
ends_of-y-requires t c = (child-lower c.args.self.now.walkable c.args.i c.in-Seq.ensures c.decreases (inr refl), tt)

pub ends_of-x-requires-in-Choice : goal.ends_of-x-requires-in-Choice
ends_of-x-requires-in-Choice t c = (child-lower c.args.self.now.walkable c.args.i c.in-Choice.ensures c.decreases (inl refl), tt)

pub ends_of-y-requires-in-Choice : goal.ends_of-y-requires-in-Choice
ends_of-y-requires-in-Choice t c = (child-lower c.args.self.now.walkable c.args.i c.in-Choice.ensures c.decreases (inr refl), tt)

pub ends_of-x-requires-in-Repeat : goal.ends_of-x-requires-in-Repeat
ends_of-x-requires-in-Repeat t c = (child-lower c.args.self.now.walkable c.args.i c.in-Repeat.ensures c.decreases refl, tt)

pub returns-in-Nil : goal.returns-in-Nil
returns-in-Nil t c = c.no_places.ensures ∙ ends-row c.args.self.now.walkable c.args.i c.in-Nil.ensures

pub returns-in-Empty : goal.returns-in-Empty
returns-in-Empty t c = c.no_places-in-Empty.ensures ∙ ends-row c.args.self.now.walkable c.args.i c.in-Empty.ensures

pub returns-in-Instant : goal.returns-in-Instant
returns-in-Instant t c =
    ap (λ (p : ℕ). ends_by false p p) (single-place c.args.self.now.walkable c.args.i c.in-Instant.ensures c.single-place.ensures)
    ∙ ends-row c.args.self.now.walkable c.args.i c.in-Instant.ensures

pub returns-in-Seq : goal.returns-in-Seq
returns-in-Seq t c =
    c.sequence_ends.ensures
    ∙ ap₂ sequence_ends c.ends_of-x.ensures c.ends_of-y.ensures
    ∙ ends-row c.args.self.now.walkable c.args.i c.in-Seq.ensures

pub returns-in-Choice : goal.returns-in-Choice
returns-in-Choice t c =
    c.choice_ends.ensures
    ∙ ap₂ choice_ends c.ends_of-x-in-Choice.ensures c.ends_of-y-in-Choice.ensures
    ∙ ends-row c.args.self.now.walkable c.args.i c.in-Choice.ensures

pub returns-in-Repeat : goal.returns-in-Repeat
returns-in-Repeat t c =
    ap (λ (x : Ends). ends_by true x.first x.last) c.ends_of-x-in-Repeat.ensures
    ∙ ends-row c.args.self.now.walkable c.args.i c.in-Repeat.ensures
