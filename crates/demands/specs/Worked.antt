-- C1 to C12 with C5r "of the written meaning and the run's rules by a single statement over a list of them".
use Rattle.std.specs.Prelude.{◌≡◌, ◌⊎◌}
use Rattle.effect.specs.Meaning.{root, Trace, Included}
use Rattle.goals.specs.Cases.{Case, Listed, Comparison, comparisons, ample, given_by, Gives, Each}
use Rattle.demands.specs.Demands.{left_nodes, right_nodes}

-- what the meaning says of a case, from the outcome that is listed: included, or refuted by the very trace listed
pub record Meant (c : Case) (listed : Listed) : Type 0 where
  pub included : listed.outcome ≡ 1 → Included c.s c.left c.right
  pub refuted : listed.outcome ≡ 2
      → Trace c.s c.left (root c.left) listed.trace × (Trace c.s c.right (root c.right) listed.trace → ⊥)

-- the same in ample room
abbrev pub in_ample : Case → Case
in_ample c = record { s = c.s; left = c.left; right = c.right; room = ample }

pub record Holds (c : Comparison) : Type 0 where
  -- the tables given are those of the nodes
  pub tables : (left_nodes (given_by c.case) ≡ c.case.left) × (right_nodes (given_by c.case) ≡ c.case.right)
  -- the run's rules give the listed outcome, settled, used and trace
  pub gives : Gives c
  -- the meaning says the same
  pub means : Meant c.case c.listed
  -- C5r, "the same, room 2": where no room is listed, the same sides in ample room are decided, and the meaning says the same
  pub same : c.listed.outcome ≡ 3
      → (listed : Listed)
      × Gives (record { case = in_ample c.case; listed = listed })
      × ((listed.outcome ≡ 1) ⊎ (listed.outcome ≡ 2))
      × Meant c.case listed

abbrev pub Worked : Type 0
Worked = Each Holds comparisons
