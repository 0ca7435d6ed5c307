-- Our calls meet the demands, and so do our reader and writer.
use Prim.Native.Nat.{ℕ}
use mathlib.Core.Path.{◌≡◌, refl, sym, ap, ◌∙◌}
use mathlib.Core.Bool.{Bool, true, false, cond}
use mathlib.Core.List.{List, [], ◌∷◌}
use lib.Dec.{eqb}
use lib.ListN.{length}
use borrow.Author.Tests.{eq-eqb, eqb-true, eqb-false}
use Rattle.std.specs.Prelude.{Result, Ok, Err}
use Rattle.effect.specs.declared.Refusal.{Refusal}
use Rattle.effect.specs.Refusals.{refusal_number, Answer, front}
use Rattle.sheet.specs.declared.Header.{Header}
use Rattle.sheet.specs.Sheet.{sheet_length, sheet_of, signals_in, count_in, nodes_in, read_refusal, write_refusal, Left, exit, left, reading, read_of, Reads, writing, write_of, Writes}
use Rattle.sheet.proofs.RoundTrip.{sheet_again, table_again}
use Rattle.goals.specs.Run.{started, trace_of}
use Rattle.goals.specs.Refusals.{start_refusal, run_refusal, trace_refusal, leaves, run_after}
use Rattle.demands.specs.Calls.{used_in, holding, ours}
use Rattle.demands.specs.Demands.{Answers, ReadTakes, WritePuts, Meets, MeetsSheets}
use Rattle.sheet.proofs.Numbers.{IsNumber, read-number, write-number}
use Rattle.demands.proofs.Deciding.{read_refuses, write_refuses, start_refuses, run_refuses, trace_refuses}
use Rattle.demands.proofs.Included.{included-only-if, goals-reached, counts-reached}
use Rattle.demands.proofs.Refuting.{refuted-only-with, trace-hands, refuted-shown}
use Rattle.demands.proofs.Closing.{steps-close, start-leaves, rows-entered, idles, goals-differ, rows_stay}
use Rattle.demands.proofs.Room.{room-and-budget, no_room, budget-ends}
use Rattle.demands.proofs.Going.{run-accepts, trace-accepts}
use Rattle.demands.proofs.Dividing.{divided}

-- a promise says what is answered and left, so there is such an answer
answers : Answers ours
answers = (
  (λ g l. let a = leaves (start_refusal g (length l.rows)) [] (holding started l) l in (a.reply, a.lent, refl)),
  (λ g l budget.
      let a = leaves (run_refusal g (length l.rows) (used_in l) l.held) [] (holding (run_after g (length l.rows) (used_in l) l.held budget) l) l in
      (a.reply, a.lent, refl)),
  (λ g l out.
      let word = trace_of (used_in l) l.held.settled in
      let a = leaves (trace_refusal g (length l.rows) (used_in l) l.held (length out)) (length word ∷ []) (front word out) out in
      (a.reply, a.lent, refl)),
)

pub meets : Meets ours
meets =
    record {
      answers = answers;
      start_refuses = start_refuses;
      run_refuses = run_refuses;
      trace_refuses = trace_refuses;
      included = included-only-if;
      refuted = refuted-only-with;
      hands = trace-hands;
      seen = refuted-shown;
      start = start-leaves;
      steps = steps-close;
      entered = rows-entered;
      idles = idles;
      differ = goals-differ;
      reached = goals-reached;
      stay = rows_stay;
      bound = room-and-budget;
      divided = divided;
      counts = counts-reached;
      room = no_room;
      goes_on = run-accepts;
      shows = trace-accepts;
      ends = budget-ends;
    }

-- ---- what a reader or a writer leaves
module _ (n : ℕ) (values result lent : List ℕ) where
  accepted-left : eqb n 0 ≡ true → exit (record { number = 0; values = values }) (front result lent) ≡ left n values result lent
  accepted-left e = λ i. exit
      (record { number = sym (eqb-true n 0 e) i; values = ap (λ (b : Bool). cond b values []) (sym e) i })
      (ap (λ (b : Bool). cond b (front result lent) lent) (sym e) i)

  refused-left : eqb n 0 ≡ false → exit (record { number = n; values = [] }) lent ≡ left n values result lent
  refused-left e = λ i. exit
      (record { number = n; values = ap (λ (b : Bool). cond b values []) (sym e) i })
      (ap (λ (b : Bool). cond b (front result lent) lent) (sym e) i)

  taken : (a : Answer) (lent' : List ℕ) → exit a lent' ≡ left n values result lent → a.number ≡ 0 → (a.values ≡ values) × (lent' ≡ front result lent)
  taken a lent' h z =
      let none : eqb n 0 ≡ true = eq-eqb n 0 (sym (ap (λ (x : Left). x.answer.number) h) ∙ z) in (
        ap (λ (x : Left). x.answer.values) h ∙ ap (λ (b : Bool). cond b values []) none,
        ap (λ (x : Left). x.lent) h ∙ ap (λ (b : Bool). cond b (front result lent) lent) none,
      )

-- ---- reader and writer
-- a refusal's number is what is answered
refused-with : (r : Refusal) {n : ℕ} → refusal_number r ≡ n → (lent : List ℕ)
    → exit (record { number = refusal_number r; values = [] }) lent ≡ exit (record { number = n; values = [] }) lent
refused-with r e lent = ap (λ (n : ℕ). exit (record { number = n; values = [] }) lent) e

read-answers : (sheet nodes : List ℕ) → (r : Result Header Refusal) × (nodes' : List ℕ) × Reads sheet nodes r nodes'
unfolding read_of reading
read-answers sheet nodes = by (read_refusal sheet (length nodes)) (read-number sheet (length nodes)) (eqb (read_refusal sheet (length nodes)) 0) refl
  where
    by : (n : ℕ) → IsNumber n → (b : Bool) → eqb n 0 ≡ b
        → (r : Result Header Refusal) × (nodes' : List ℕ) × (exit (reading r) nodes' ≡ left n (signals_in sheet ∷ count_in sheet ∷ []) (nodes_in sheet) nodes)
    by n k true e =
        (Ok (record { s = signals_in sheet; nodes = count_in sheet }), front (nodes_in sheet) nodes, accepted-left n (signals_in sheet ∷ count_in sheet ∷ []) (nodes_in sheet) nodes e)
    by n k false e =
        let (r, is) = k (eqb-false n 0 e) in
        (Err r, nodes, refused-with r is nodes ∙ refused-left n (signals_in sheet ∷ count_in sheet ∷ []) (nodes_in sheet) nodes e)

write-answers : (s : ℕ) (nodes out : List ℕ) → (r : Result ℕ Refusal) × (out' : List ℕ) × Writes s nodes out r out'
unfolding write_of writing
write-answers s nodes out = by (write_refusal s nodes (length out)) (write-number s nodes (length out)) (eqb (write_refusal s nodes (length out)) 0) refl
  where
    by : (n : ℕ) → IsNumber n → (b : Bool) → eqb n 0 ≡ b
        → (r : Result ℕ Refusal) × (out' : List ℕ) × (exit (writing r) out' ≡ left n (sheet_length (length nodes) ∷ []) (sheet_of s nodes) out)
    by n k true e = (Ok (sheet_length (length nodes)), front (sheet_of s nodes) out, accepted-left n (sheet_length (length nodes) ∷ []) (sheet_of s nodes) out e)
    by n k false e =
        let (r, is) = k (eqb-false n 0 e) in
        (Err r, out, refused-with r is out ∙ refused-left n (sheet_length (length nodes) ∷ []) (sheet_of s nodes) out e)

read-takes : ReadTakes Reads
unfolding read_of
read-takes sheet nodes nodes' r h z = taken (read_refusal sheet (length nodes)) (signals_in sheet ∷ count_in sheet ∷ []) (nodes_in sheet) nodes (reading r) nodes' h z

write-puts : WritePuts Writes
unfolding write_of
write-puts s nodes out out' r h z = taken (write_refusal s nodes (length out)) (sheet_length (length nodes) ∷ []) (sheet_of s nodes) out (writing r) out' h z

pub meets-sheets : MeetsSheets Reads Writes
meets-sheets =
    record {
      answers = (read-answers, write-answers);
      read_refuses = read_refuses;
      write_refuses = write_refuses;
      takes = read-takes;
      puts = write-puts;
      sheet_again = sheet_again;
      table_again = table_again;
    }
