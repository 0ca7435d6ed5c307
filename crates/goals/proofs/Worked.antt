-- The run's rules give what document 01 lists of C1 to C12 with C5r: they compute.
use mathlib.Core.Path.{refl}
use Rattle.bits.specs.Bit.{bit}
use Rattle.effect.specs.Node.{kind_of, decode_of, fields_of, number_of}
use Rattle.effect.specs.Refusals.{lowest, lowest_node, some_below, some_child, claimed, names_beyond, twins, node_refusal, one_if_instant, instants, refusal_at, table_refusal, side_refusal}
use Rattle.places.specs.Places.{place, numbered_node, numbered_to, rounds, has_empty, first_of, last_of, links_to, after, accepting}
use Rattle.places.specs.Side.{list_of, mask_in, masks_to, side_of}
use Rattle.places.specs.Readings.{matching_to, spread_to}
use Rattle.goals.specs.Goals.{bad_goal, each_member, each_letter, candidates, known, enter, enter_all}
use Rattle.goals.specs.Run.{settle, step, steps, run, word_in}
use Rattle.goals.specs.Refusals.{room_of, record_impossible, row_zero_impossible, row_impossible, impossible, first, start_refusal, run_refusal, run_after}
use Rattle.goals.specs.Cases.{comparisons, Gives, Each}

pub worked : Each Gives comparisons
unfolding Each bit kind_of decode_of fields_of number_of lowest lowest_node some_below some_child claimed names_beyond twins node_refusal one_if_instant instants refusal_at table_refusal side_refusal place numbered_node numbered_to rounds has_empty first_of last_of links_to after accepting list_of mask_in masks_to side_of matching_to spread_to bad_goal each_member each_letter candidates known enter enter_all settle step steps run word_in room_of record_impossible row_zero_impossible row_impossible impossible first start_refusal run_refusal run_after
worked = (
  record { starts = refl; runs = refl; shows = refl },
  (
    record { starts = refl; runs = refl; shows = refl },
    (
      record { starts = refl; runs = refl; shows = refl },
      (
        record { starts = refl; runs = refl; shows = refl },
        (
          record { starts = refl; runs = refl; shows = refl },
          (
            record { starts = refl; runs = refl; shows = refl },
            (
              record { starts = refl; runs = refl; shows = refl },
              (
                record { starts = refl; runs = refl; shows = refl },
                (
                  record { starts = refl; runs = refl; shows = refl },
                  (
                    record { starts = refl; runs = refl; shows = refl },
                    (
                      record { starts = refl; runs = refl; shows = refl },
                      (
                        record { starts = refl; runs = refl; shows = refl },
                        (
                          record { starts = refl; runs = refl; shows = refl },
                          tt,
                        ),
                      ),
                    ),
                  ),
                ),
              ),
            ),
          ),
        ),
      ),
    ),
  ),
)
