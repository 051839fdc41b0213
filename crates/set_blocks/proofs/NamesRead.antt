-- Different names have different words: the name is read back from the place.
use Rattle.std.proofs.Common.{◌≡◌, ℕ, ◌+◌, ◌-◌, ◌*◌, ◌/◌, ◌%◌, ◌<◌, ◌≤◌, ltb, false, refl, sym, ap, ◌∙◌, arith}
use Rattle.std.proofs.lemmas.Bool.{lt-ltb}
use Rattle.std.proofs.lemmas.Nat.{mul-add-lt}
use native.Mathlib.Nat.{add-mul-div_left, add-mul-mod_self_left, div-eq_of_lt, mod-eq_of_lt}
use Rattle.set_blocks.specs.Names.{Name, IsName, place, name_at, entry_at, cell_at, word_count, blocks_of, first_set, first_drawn, first_entry, first_cell, EarlierWord, SetWord, DrawnWord, EntryWord, CellWord}

not_below : (a b : ℕ) → b ≤ a → ltb a b ≡ false
not_below a b le = grind arith

-- a number is read back from its row and its place in the row
row_of : (width row at : ℕ) → at < width → (at + width * row) / width ≡ row
row_of width row at low = add-mul-div_left at row (omega arith) ∙ (let none = div-eq_of_lt low in omega arith)

at_of : (width row at : ℕ) → at < width → (at + width * row) % width ≡ at
at_of width row at low = add-mul-mod_self_left at width row ∙ mod-eq_of_lt low

-- and it is below all rows
row_low : (width rows row at : ℕ) → at < width → row < rows → at + width * row < width * rows
row_low width rows row at low below = omega (arith, mul-add-lt row width at rows below low)

module _ (chunks : ℕ) where
  entry_read : (s e : ℕ) → e < chunks → entry_at chunks (e + chunks * s) ≡ EntryWord s e
  entry_read s e low = λ j. EntryWord ((row_of chunks s e low) j) ((at_of chunks s e low) j)

  cell_read : (p b i : ℕ) → b < blocks_of chunks → i < 512 → cell_at chunks (i + 512 * (b + blocks_of chunks * p)) ≡ CellWord p b i
  cell_read p b i below low =
      let q : ℕ = b + blocks_of chunks * p in
      rw (row_of 512 q i low, at_of 512 q i low) (λ j. CellWord ((row_of (blocks_of chunks) p b below) j) ((at_of (blocks_of chunks) p b below) j) i)

  pub named : (k : Name) → IsName chunks k → name_at chunks (place chunks k) ≡ k
  named (EarlierWord k) h = rw (lt-ltb k (first_set chunks) (omega arith)) refl
  named (SetWord s) h = let w : ℕ = s + first_set chunks in
      rw (not_below w (first_set chunks) (omega arith), lt-ltb w (first_drawn chunks) (omega arith)) (ap SetWord (omega arith))
  named (DrawnWord p) h = let w : ℕ = p + first_drawn chunks in
      rw (not_below w (first_set chunks) (omega arith), not_below w (first_drawn chunks) (omega arith), lt-ltb w (first_entry chunks) (omega arith)) (ap DrawnWord (omega arith))
  named (EntryWord s e) h = let w : ℕ = (e + chunks * s) + first_entry chunks in
      let below = row_low chunks 544 s e h.1 h.0 in
      rw (not_below w (first_set chunks) (omega arith), not_below w (first_drawn chunks) (omega arith), not_below w (first_entry chunks) (omega arith), lt-ltb w (first_cell chunks) (omega arith))
      (let at : w - first_entry chunks ≡ e + chunks * s = omega arith in ap (entry_at chunks) at ∙ entry_read s e h.1)
  named (CellWord p b i) h = let w : ℕ = (i + 512 * (b + blocks_of chunks * p)) + first_cell chunks in
      rw (not_below w (first_set chunks) (omega arith), not_below w (first_drawn chunks) (omega arith), not_below w (first_entry chunks) (omega arith), not_below w (first_cell chunks) (omega arith))
      (let at : w - first_cell chunks ≡ i + 512 * (b + blocks_of chunks * p) = omega arith in ap (cell_at chunks) at ∙ cell_read p b i h.1 h.2)

  pub place_once : (k l : Name) → IsName chunks k → IsName chunks l → place chunks k ≡ place chunks l → k ≡ l
  place_once k l i j e = sym (named k i) ∙ ap (name_at chunks) e ∙ named l j

  pub place_low : (k : Name) → IsName chunks k → place chunks k < word_count chunks
  place_low (EarlierWord k) h = omega arith
  place_low (SetWord s) h = omega arith
  place_low (DrawnWord p) h = omega arith
  place_low (EntryWord s e) h = let below = row_low chunks 544 s e h.1 h.0 in omega arith
  place_low (CellWord p b i) h =
      let below = row_low (blocks_of chunks) 2 p b h.1 h.0 in
      let inside = row_low 512 (blocks_of chunks * 2) (b + blocks_of chunks * p) i h.2 below in
      omega arith
