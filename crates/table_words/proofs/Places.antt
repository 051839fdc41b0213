-- Different names have different words: the name is read back from the place.
use Rattle.std.proofs.Common.{◌≡◌, ℕ, ◌+◌, ◌-◌, ◌*◌, ◌/◌, ◌%◌, ◌<◌, ◌≤◌, ltb, false, refl, sym, ap, ◌∙◌, arith, mul-le-mul, mul-suc}
use Rattle.std.proofs.lemmas.Bool.{lt-ltb}
use native.Mathlib.Nat.{add-mul-div_left, add-mul-mod_self_left, div-eq_of_lt, mod-eq_of_lt}
use Rattle.set_blocks.specs.Names.{blocks_of}
use Rattle.table_words.specs.Names.{Name, IsName, place, name_at, entry_at, cell_at, chunks_of, first_cell, word_count, LockWord, GenerationWord, CounterWord, EventWord, PageWord, SetWord, DrawnWord, EntryWord, CellWord}

not_below : (a b : ℕ) → b ≤ a → ltb a b ≡ false
not_below a b le = grind arith

-- a number is read back from its row and its place in the row
row_of : (width row at : ℕ) → at < width → (at + width * row) / width ≡ row
row_of width row at low = add-mul-div_left at row (omega arith) ∙ (let none = div-eq_of_lt low in omega arith)

at_of : (width row at : ℕ) → at < width → (at + width * row) % width ≡ at
at_of width row at low = add-mul-mod_self_left at width row ∙ mod-eq_of_lt low

-- a place in a row stands before the end of the last row
row_low : (width rows row at : ℕ) → row < rows → at < width → at + width * row < width * rows
row_low width rows row at l m = let x : width * (row + 1) ≤ width * rows = mul-le-mul (omega arith) (omega arith) in omega (arith, mul-suc width row)

module _ (R : ℕ) where
  pub named : (k : Name) → IsName R k → name_at R (place R k) ≡ k
  named LockWord i = refl
  named GenerationWord i = refl
  named (CounterWord k) i = rw (not_below (k + 2) 1 (omega arith), not_below (k + 2) 2 (omega arith), lt-ltb (k + 2) 5 (omega arith)) (ap CounterWord (omega arith))
  named (EventWord k) i = rw (not_below (k + 5) 1 (omega arith), not_below (k + 5) 2 (omega arith), not_below (k + 5) 5 (omega arith), lt-ltb (k + 5) 75 (omega arith)) (ap EventWord (omega arith))
  named (PageWord p) i =
      rw (not_below (p + 75) 1 (omega arith), not_below (p + 75) 2 (omega arith), not_below (p + 75) 5 (omega arith), not_below (p + 75) 75 (omega arith), lt-ltb (p + 75) (R + 75) (omega arith))
      (ap PageWord (omega arith))
  named (SetWord s) i = let w : ℕ = s + (R + 75) in
      rw (not_below w 1 (omega arith), not_below w 2 (omega arith), not_below w 5 (omega arith), not_below w 75 (omega arith), not_below w (R + 75) (omega arith), lt-ltb w (R + 619) (omega arith))
      (ap SetWord (omega arith))
  named (DrawnWord p) i = let w : ℕ = p + (R + 619) in
      rw (not_below w 1 (omega arith), not_below w 2 (omega arith), not_below w 5 (omega arith), not_below w 75 (omega arith), not_below w (R + 75) (omega arith), not_below w (R + 619) (omega arith), lt-ltb w (R + 621) (omega arith))
      (ap DrawnWord (omega arith))
  named (EntryWord s e) h = let w : ℕ = (e + chunks_of R * s) + (R + 621) in let below = row_low (chunks_of R) 544 s e h.0 h.1 in
      rw (not_below w 1 (omega arith), not_below w 2 (omega arith), not_below w 5 (omega arith), not_below w 75 (omega arith), not_below w (R + 75) (omega arith), not_below w (R + 619) (omega arith), not_below w (R + 621) (omega arith), lt-ltb w (first_cell R) (omega arith))
      (let at : w - (R + 621) ≡ e + chunks_of R * s = omega arith in ap (entry_at R) at ∙ (λ j. EntryWord (row_of (chunks_of R) s e h.1 j) (at_of (chunks_of R) s e h.1 j)))
  named (CellWord p b i) h = let w : ℕ = (i + 512 * (b + blocks_of (chunks_of R) * p)) + first_cell R in
      rw (not_below w 1 (omega arith), not_below w 2 (omega arith), not_below w 5 (omega arith), not_below w 75 (omega arith), not_below w (R + 75) (omega arith), not_below w (R + 619) (omega arith), not_below w (R + 621) (omega arith), not_below w (first_cell R) (omega arith))
      (let at : w - first_cell R ≡ i + 512 * (b + blocks_of (chunks_of R) * p) = omega arith in ap (cell_at R) at ∙ cell_read p b i h.1 h.2)
    where
      cell_read : (p b i : ℕ) → b < blocks_of (chunks_of R) → i < 512 → cell_at R (i + 512 * (b + blocks_of (chunks_of R) * p)) ≡ CellWord p b i
      cell_read p b i low inside = (λ j. CellWord (row_of 512 (b + blocks_of (chunks_of R) * p) i inside j / blocks_of (chunks_of R)) (row_of 512 (b + blocks_of (chunks_of R) * p) i inside j % blocks_of (chunks_of R)) (at_of 512 (b + blocks_of (chunks_of R) * p) i inside j))
          ∙ (λ j. CellWord (row_of (blocks_of (chunks_of R)) p b low j) (at_of (blocks_of (chunks_of R)) p b low j) i)

  pub place_once : (k l : Name) → IsName R k → IsName R l → place R k ≡ place R l → k ≡ l
  place_once k l i j e = sym (named k i) ∙ ap (name_at R) e ∙ named l j

  pub place_low : (k : Name) → IsName R k → place R k < word_count R
  place_low LockWord i = omega arith
  place_low GenerationWord i = omega arith
  place_low (CounterWord k) i = omega arith
  place_low (EventWord k) i = omega arith
  place_low (PageWord p) i = omega arith
  place_low (SetWord s) i = omega arith
  place_low (DrawnWord p) i = omega arith
  place_low (EntryWord s e) h = let below = row_low (chunks_of R) 544 s e h.0 h.1 in omega arith
  place_low (CellWord p b i) h =
      let below = row_low (blocks_of (chunks_of R)) 2 p b h.0 h.1 in
      let inside = row_low 512 (blocks_of (chunks_of R) * 2) (b + blocks_of (chunks_of R) * p) i below h.2 in
      omega arith
