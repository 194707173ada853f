-- Lists one after another give the text of all their events.
use Prim.Native.Nat.{ℕ, zero, suc, ◌≤◌, ◌<◌}
use mathlib.Core.Path.{◌≡◌, refl, ◌∙◌}
use mathlib.Core.Logic.{◌≢◌}
use mathlib.Core.Bool.{Bool, true, cond}
use mathlib.Core.List.{List, ◌++◌}
use native.Mathlib.Omega.{arith}
use lib.ListN.{get_or}
use Rattle.rules.specs.Run.{run}
use Rattle.rules.specs.Records.{records}
use Rattle.route.specs.Entries.{events_in}
use Rattle.tally.specs.Places as place
use Rattle.tally.specs.Shares.{events_add, list_adds}
use Rattle.tally.specs.Entry.{added}
use Rattle.tally.proofs.Added.{length-added, added_at}
use Rattle.tally.proofs.Lists.{list-events}
use Rattle.tally.proofs.Shared.{events-append}
use Rattle.lines.specs.Text.{letters, decimal, field}
use Rattle.lines.specs.Figures.{counted, sums, answer, answers_to, head, cells_to, row, rows, figures_text}
use Rattle.figures.specs.Output.{listed_table, listed_totals, ListByList}

-- ---- the text shows every total but lists added, holders at the start and holders at the end
abbrev Alike : List ℕ → List ℕ → Type 0
Alike f g = (j : ℕ) → j < place.figures → j ≢ place.lists → j ≢ place.start → j ≢ place.end → get_or f j 0 ≡ get_or g j 0

module _ (f g : List ℕ) (h : Alike f g) where
  -- the totals from place 2 to 4, and those after place 5
  early : (j : ℕ) → 2 ≤ j → j ≤ 4 → get_or f j 0 ≡ get_or g j 0
  early j l m = h j (omega arith) (λ e. omega arith) (λ e. omega arith) (λ e. omega arith)

  late : (j : ℕ) → 6 ≤ j → j < place.figures → get_or f j 0 ≡ get_or g j 0
  late j l m = h j m (λ e. omega arith) (λ e. omega arith) (λ e. omega arith)

  sums_alike : (start end : ℕ) → sums start end f ≡ sums start end g
  unfolding sums
  sums_alike start end =
      let seized = early place.seized (omega arith) (omega arith) in
      let released = early place.released (omega arith) (omega arith) in
      let lost = early place.lost (omega arith) (omega arith) in
      λ i. counted (letters "start ") start ++ counted (letters "seized ") (seized i) ++ counted (letters "released ") (released i)
      ++ counted (letters "lost ") (lost i) ++ counted (letters "end ") end

  answers_alike : (k : ℕ) → k ≤ 64 → answers_to f k ≡ answers_to g k
  answers_alike zero l = refl
  answers_alike (suc k) l =
      let before = answers_alike k (omega arith) in
      let count = late (place.answered k) (omega arith) (omega arith) in
      λ i. before i ++ answer k (count i)

  cells_alike : (taker : ℕ) → taker < 5 → (k : ℕ) → k ≤ 5 → cells_to f taker k ≡ cells_to g taker k
  cells_alike taker t zero l = refl
  cells_alike taker t (suc k) l =
      let before = cells_alike taker t k (omega arith) in
      let count = late (place.lost_by_level taker k) (omega arith) (omega arith) in
      λ i. before i ++ field (decimal (count i))

  row_alike : (taker : ℕ) → taker < 5 → (name : List ℕ) → row f taker name ≡ row g taker name
  unfolding row
  row_alike taker t name = let cells = cells_alike taker t 5 (omega arith) in λ i. name ++ cells i ++ letters "\n"

  rows_alike : rows f ≡ rows g
  unfolding rows
  rows_alike =
      let flash-override = row_alike 0 (omega arith) (letters "FLASH_OVERRIDE") in
      let flash = row_alike 1 (omega arith) (letters "FLASH") in
      let immediate = row_alike 2 (omega arith) (letters "IMMEDIATE") in
      let priority = row_alike 3 (omega arith) (letters "PRIORITY") in
      let routine = row_alike 4 (omega arith) (letters "ROUTINE") in
      λ i. flash-override i ++ flash i ++ immediate i ++ priority i ++ routine i

  text_alike : (start end : ℕ) → figures_text start end f ≡ figures_text start end g
  unfolding figures_text
  text_alike start end =
      let numbers = sums_alike start end in
      let answers = answers_alike 64 (omega arith) in
      λ i. numbers i ++ answers i ++ head ++ rows_alike i

pub list_by_list : ListByList
unfolding listed_table listed_totals
list_by_list start end t first f rest many room = (λ i. figures_text start end (listed (room i))) ∙ text_alike (listed true) (added (events_add records t (es ++ rest)) f) alike start end
  where
    es : List (List ℕ)
    es = events_in first

    totals : List ℕ
    totals = added (list_adds records t es) f

    listed : Bool → List ℕ
    listed b = added (events_add records (cond b (run records t es) t) rest) (cond b totals f)

    alike : Alike (added (events_add records (run records t es) rest) totals) (added (events_add records t (es ++ rest)) f)
    alike j l x y z =
        omega (arith, added_at (events_add records (run records t es) rest) totals j (omega (arith, length-added (list_adds records t es) f)), added_at (list_adds records t es) f j (omega arith), list-events records t es j x y z, events-append records es rest t j, added_at (events_add records t (es ++ rest)) f j (omega arith))
