-- Document 01's worked input prints the worked output, and with its sheets exchanged that of C4, and an input with another letter its
-- letter: the definitions compute it.
use Rattle.std.proofs.Common.{ℕ, ◌≡◌, refl, List, [], ◌∷◌}
use Rattle.bits.specs.Bit.{bit}
use Rattle.effect.specs.Node.{kind_of, decode_of, fields_of, number_of}
use Rattle.effect.specs.Refusals.{lowest, lowest_node, some_below, some_child, claimed, names_beyond, twins, node_refusal, one_if_instant, instants, refusal_at, table_refusal, side_refusal}
use Rattle.places.specs.Places.{place, numbered_node, numbered_to, rounds, has_empty, first_of, last_of, links_to, after, accepting}
use Rattle.places.specs.Side.{list_of, mask_in, masks_to, side_of}
use Rattle.places.specs.Readings.{matching_to, spread_to}
use Rattle.goals.specs.Goals.{bad_goal, each_member, each_letter, candidates, known, enter, enter_all}
use Rattle.goals.specs.Run.{settle, step, steps, run, word_in}
use Rattle.goals.specs.Refusals.{first}
use Rattle.sheet.specs.Bits.{digits, each, field, fields}
use Rattle.sheet.specs.Sheet.{signals_in, count_in, nodes_in, filling_set, header_refusal, read_refusal}
use Rattle.program.specs.Lines.{ascii, digit, decimal_in, letter, letters, outcome_line, counts_line, trace_line, ended_lines}
use Rattle.program.specs.Program.{refusal_in, lines_of}

-- "Input `10 14 00 00 10 14 02 00`": any letter on the left, the signal on the right; and the sheets exchanged
abbrev pub worked_input : List ℕ
worked_input = 0x10 ∷ 0x14 ∷ 0x00 ∷ 0x00 ∷ 0x10 ∷ 0x14 ∷ 0x02 ∷ 0x00 ∷ []

abbrev pub exchanged : List ℕ
exchanged = 0x10 ∷ 0x14 ∷ 0x02 ∷ 0x00 ∷ 0x10 ∷ 0x14 ∷ 0x00 ∷ 0x00 ∷ []

-- the signal on the left, nothing on the right
abbrev pub letter_input : List ℕ
letter_input = 0x10 ∷ 0x14 ∷ 0x02 ∷ 0x00 ∷ 0x10 ∷ 0x10 ∷ 0x00 ∷ 0x00 ∷ []

-- any letter on the left, ten of them one after another on the right, of no signal: 1 + 1 × 2^10 is above 1,024
abbrev pub above_input : List ℕ
above_input =
    0x00 ∷ 0x14 ∷ 0x00 ∷ 0x00
    ∷ 0x01 ∷ 0x34 ∷ 0x00 ∷ 0x00 ∷ 0x80 ∷ 0x00 ∷ 0x18 ∷ 0x00 ∷ 0x0a ∷ 0x00 ∷ 0x00 ∷ 0x60 ∷ 0x40 ∷ 0x68 ∷ 0x00 ∷ 0x01 ∷ 0x82 ∷ 0x02 ∷ 0xa0 ∷ 0x00
    ∷ 0x06 ∷ 0x0c ∷ 0x0e ∷ 0x80 ∷ 0x00 ∷ 0x18 ∷ 0x40 ∷ 0x4a ∷ 0x00 ∷ 0x00 ∷ 0x61 ∷ 0x41 ∷ 0x68 ∷ 0x00 ∷ 0x01 ∷ 0x86 ∷ 0x06 ∷ 0xa0 ∷ 0x00 ∷ 0x06
    ∷ 0x1c ∷ 0x1e ∷ 0x80 ∷ 0x00 ∷ 0x18 ∷ 0x80 ∷ 0x88 ∷ []

four-worked :
    (lines_of worked_input ≡ ascii "refuted\nsettled 1 of 3 rows\ntrace 00\n")
    × (lines_of exchanged ≡ ascii "included\nsettled 2 of 2 rows\n")
    × (lines_of letter_input ≡ ascii "refuted\nsettled 1 of 2 rows\ntrace 01\n")
    × (lines_of above_input ≡ ascii "refuted\nsettled 1 of 2 rows\ntrace 00\n")
unfolding bit kind_of decode_of fields_of number_of lowest lowest_node some_below some_child claimed names_beyond twins node_refusal one_if_instant instants refusal_at table_refusal side_refusal place numbered_node numbered_to rounds has_empty first_of last_of links_to after accepting list_of mask_in masks_to side_of matching_to spread_to bad_goal each_member each_letter candidates known enter enter_all settle step steps run word_in first digits each field fields signals_in count_in nodes_in filling_set header_refusal read_refusal ascii digit decimal_in letter letters outcome_line counts_line trace_line ended_lines refusal_in lines_of
four-worked = (refl, refl, refl, refl)

-- it "prints, whole"
pub worked-input : lines_of worked_input ≡ ascii "refuted\nsettled 1 of 3 rows\ntrace 00\n"
worked-input = four-worked.0

pub worked-exchanged : lines_of exchanged ≡ ascii "included\nsettled 2 of 2 rows\n"
worked-exchanged = four-worked.1

-- the letter 1 is 01
pub worked-letter : lines_of letter_input ≡ ascii "refuted\nsettled 1 of 2 rows\ntrace 01\n"
worked-letter = four-worked.2

-- two goals are reached, though there could be more than there are rows
pub worked-above : lines_of above_input ≡ ascii "refuted\nsettled 1 of 2 rows\ntrace 00\n"
worked-above = four-worked.3
