-- The rows of pages, of which each lies at a place.
use Rattle.std.proofs.Common.{◌≡◌, ℕ, zero, suc, ◌+◌, ◌-◌, ◌^◌, ◌<◌, ◌≤◌, true, false, cond, ◌==◌, ◌&&◌, List, [], ◌∷◌, ◌++◌, length, get_or, refl, sym, ◌∙◌, ap, arith, inl, inr, eq-eqb, get_or-set_same, get_or-set_other}
use Rattle.std.proofs.Math.ListN.{set, length-set, get_or-map}
use Rattle.std.proofs.lemmas.Bool.{cases_eq, cases_Bool, ne_eqb}
use Rattle.std.proofs.lemmas.List.{get_or_append_left, get_or-append_right, get_or_default, get_or_past, length-map}
use Rattle.span_state.specs.Groups.{AreRows, row_of, word_of}
use Rattle.span_state.specs.Table.{ArePlaces, row_at, table_of}

-- a page's row is the one at its place
row-at : (places : List ℕ) (rows : List (List ℕ)) (q : ℕ) → row_of (table_of places rows) q ≡ row_at rows (get_or places q 0)
row-at places rows q = get_or-map (row_at rows) places q 0

-- a row lies at the number before its place
at-before : (rows : List (List ℕ)) (place : ℕ) → 0 < place → row_at rows place ≡ get_or rows (place - 1) []
at-before rows zero some = absurd (omega arith)
at-before rows (suc before) some = let e : suc before - 1 ≡ before = omega arith in ap (λ (n : ℕ). get_or rows n []) (sym e)

-- where two lists have the same row at the number before a place, they have the same one at the place
at-same : (old new : List (List ℕ)) (place : ℕ) → ((n : ℕ) → n < place → n + 1 ≡ place → get_or new n [] ≡ get_or old n []) → row_at new place ≡ row_at old place
at-same old new zero same = refl
at-same old new (suc before) same = same before (omega arith) (omega arith)

-- the row that was read at a page's place
pub own-row : (places : List ℕ) (rows : List (List ℕ)) (page place : ℕ) (row : List ℕ) → ArePlaces places (length rows) → 0 < place → place ≡ get_or places page 0
    → row ≡ get_or rows (place - 1) row → row ≡ row_of (table_of places rows) page
own-row places rows page place row are some is read =
    let most = are.inside page in
    read ∙ get_or_default rows (place - 1) row [] (omega arith) ∙ sym (at-before rows place some) ∙ ap (row_at rows) is ∙ sym (row-at places rows page)

-- ---- a row is put at a page's place

row-put : (places : List ℕ) (rows : List (List ℕ)) (page place : ℕ) (row : List ℕ) → ArePlaces places (length rows) → 0 < place → place ≡ get_or places page 0
    → (q : ℕ) → row_of (table_of places (set rows (place - 1) row)) q ≡ cond (q == page) row (row_of (table_of places rows) q)
row-put places rows page place row are some is q =
    let most = are.inside page in
    elim (cases_eq q page) [
      | inl here ↦ (
          let on : (q == page) ≡ true = eq-eqb q page here in
          let own : get_or places q 0 ≡ place = ap (λ (p : ℕ). get_or places p 0) here ∙ sym is in
          rw on (row-at places (set rows (place - 1) row) q ∙ ap (row_at (set rows (place - 1) row)) own ∙ at-before (set rows (place - 1) row) place some
          ∙ get_or-set_same rows (place - 1) row [] (omega arith)))
      | inr other ↦ (
          let off : (q == page) ≡ false = ne_eqb q page other in
          let apart : get_or places q 0 ≡ place → 0 < get_or places q 0 → ⊥ = λ e pos_. other (are.apart q page (e ∙ is) pos_) in
          rw off (row-at places (set rows (place - 1) row) q
          ∙ at-same rows (set rows (place - 1) row) (get_or places q 0) (λ n lt next. get_or-set_other rows (place - 1) n row [] (λ e. apart (omega arith) (omega arith)))
          ∙ sym (row-at places rows q)))
    ]

-- a word of the page's row is put
pub word-put : (places : List ℕ) (rows : List (List ℕ)) (page place group word : ℕ) (row : List ℕ) → ArePlaces places (length rows) → 0 < place → place ≡ get_or places page 0
    → ((g : ℕ) → get_or row g 0 ≡ cond (g == group) word (word_of (table_of places rows) page g))
    → (q g : ℕ) → word_of (table_of places (set rows (place - 1) row)) q g ≡ cond (q == page && g == group) word (word_of (table_of places rows) q g)
word-put places rows page place group word row are some is put q g =
    let at = ap (λ (r : List ℕ). get_or r g 0) (row-put places rows page place row are some is q) in
    elim (cases_eq q page) [
      | inl here ↦ (
          let on : (q == page) ≡ true = eq-eqb q page here in
          let at' : word_of (table_of places (set rows (place - 1) row)) q g ≡ get_or row g 0 = at ∙ rw on refl in
          rw on (at' ∙ put g ∙ ap (λ (p : ℕ). cond (g == group) word (word_of (table_of places rows) p g)) (sym here)))
      | inr other ↦ (
          let off : (q == page) ≡ false = ne_eqb q page other in
          rw off (at ∙ rw off refl))
    ]

-- the page's row has the same words
pub word-kept : (places : List ℕ) (rows : List (List ℕ)) (page place : ℕ) (row : List ℕ) → ArePlaces places (length rows) → 0 < place → place ≡ get_or places page 0
    → ((g : ℕ) → get_or row g 0 ≡ word_of (table_of places rows) page g)
    → (q g : ℕ) → word_of (table_of places (set rows (place - 1) row)) q g ≡ word_of (table_of places rows) q g
word-kept places rows page place row are some is kept q g =
    let at = ap (λ (r : List ℕ). get_or r g 0) (row-put places rows page place row are some is q) in
    elim (cases_eq q page) [
      | inl here ↦ (
          let on : (q == page) ≡ true = eq-eqb q page here in
          at ∙ rw on (kept g ∙ ap (λ (p : ℕ). word_of (table_of places rows) p g) (sym here)))
      | inr other ↦ (let off : (q == page) ≡ false = ne_eqb q page other in at ∙ rw off refl)
    ]

pub rows-put : (places : List ℕ) (rows : List (List ℕ)) (page place : ℕ) (row : List ℕ) → ArePlaces places (length rows) → 0 < place → place ≡ get_or places page 0
    → AreRows (table_of places rows) → length row ≤ 2 ^ 26 → AreRows (table_of places (set rows (place - 1) row))
rows-put places rows page place row are some is all few = record {
  pages = (
      let was = length-map places (row_at rows) in
      let now = length-map places (row_at (set rows (place - 1) row)) in
      let most = all.pages in
      omega arith);
  groups = λ q. (
      let at = ap (λ (r : List ℕ). length r) (row-put places rows page place row are some is q) in
      let most = all.groups q in
      elim (cases_Bool (q == page)) [
        | inl on ↦ (let at' : length (row_of (table_of places (set rows (place - 1) row)) q) ≡ length row = at ∙ rw on refl in omega arith)
        | inr off ↦ (let at' : length (row_of (table_of places (set rows (place - 1) row)) q) ≡ length (row_of (table_of places rows) q) = at ∙ rw off refl in omega arith)
      ]);
}

-- ---- places of 0 are put at the end

row-same : (old places : List ℕ) (rows : List (List ℕ)) → ((q : ℕ) → get_or places q 0 ≡ get_or old q 0) → (q : ℕ) → row_of (table_of places rows) q ≡ row_of (table_of old rows) q
row-same old places rows same q = row-at places rows q ∙ ap (row_at rows) (same q) ∙ sym (row-at old rows q)

pub word-same : (old places : List ℕ) (rows now : List (List ℕ)) → ((q : ℕ) → get_or places q 0 ≡ get_or old q 0) → now ≡ rows
    → (q g : ℕ) → word_of (table_of places now) q g ≡ word_of (table_of old rows) q g
word-same old places rows now same is q g =
    ap (λ (rs : List (List ℕ)). word_of (table_of places rs) q g) is ∙ ap (λ (r : List ℕ). get_or r g 0) (row-same old places rows same q)

pub rows-same : (old places : List ℕ) (rows now : List (List ℕ)) (page : ℕ) → ((q : ℕ) → get_or places q 0 ≡ get_or old q 0) → now ≡ rows
    → ((size : ℕ) → length old ≤ size → page < size → length places ≤ size)
    → AreRows (table_of old rows) → page < 2 ^ 32 → AreRows (table_of places now)
rows-same old places rows now page same is few all lt = record {
  pages = (
      let was = length-map old (row_at rows) in
      let longer = length-map places (row_at now) in
      let most = all.pages in
      let fits = few (2 ^ 32) (omega arith) lt in
      omega arith);
  groups = λ q. (
      let at = ap (λ (rs : List (List ℕ)). length (row_of (table_of places rs) q)) is ∙ ap (λ (r : List ℕ). length r) (row-same old places rows same q) in
      let most = all.groups q in
      omega arith);
}

-- ---- a page without a row gets one

row-new : (old places : List ℕ) (rows now : List (List ℕ)) (page place : ℕ) (row : List ℕ) → ((q : ℕ) → get_or places q 0 ≡ get_or old q 0) → ArePlaces old (length rows)
    → page < length places → now ≡ rows ++ row ∷ [] → place ≡ length rows + 1
    → (q : ℕ) → row_of (table_of (set places page place) now) q ≡ cond (q == page) row (row_of (table_of old rows) q)
row-new old places rows now page place row same are lt is next q =
    let at : row_of (table_of (set places page place) now) q ≡ row_at (rows ++ row ∷ []) (get_or (set places page place) q 0) = row-at (set places page place) now q
    ∙ ap (λ (rs : List (List ℕ)). row_at rs (get_or (set places page place) q 0)) is in
    elim (cases_eq q page) [
      | inl here ↦ (
          let on : (q == page) ≡ true = eq-eqb q page here in
          let own : get_or (set places page place) q 0 ≡ place = ap (λ (p : ℕ). get_or (set places page place) p 0) here ∙ get_or-set_same places page place 0 lt in
          let last : place - 1 ≡ length rows = omega arith in
          let none : place - 1 - length rows ≡ 0 = omega arith in
          rw on (at ∙ ap (row_at (rows ++ row ∷ [])) own ∙ at-before (rows ++ row ∷ []) place (omega arith)
          ∙ get_or-append_right rows (row ∷ []) (length rows) (place - 1) [] refl (omega arith) ∙ ap (λ (n : ℕ). get_or (row ∷ []) n []) none))
      | inr other ↦ (
          let off : (q == page) ≡ false = ne_eqb q page other in
          let own : get_or (set places page place) q 0 ≡ get_or old q 0 = get_or-set_other places page q place 0 other ∙ same q in
          let most = are.inside q in
          rw off (at ∙ ap (row_at (rows ++ row ∷ [])) own
          ∙ at-same rows (rows ++ row ∷ []) (get_or old q 0) (λ n less after. get_or_append_left rows (row ∷ []) [] n (omega arith))
          ∙ sym (row-at old rows q)))
    ]

pub word-new : (old places : List ℕ) (rows now : List (List ℕ)) (page place : ℕ) (row : List ℕ) → ((q : ℕ) → get_or places q 0 ≡ get_or old q 0) → ArePlaces old (length rows)
    → page < length places → now ≡ rows ++ row ∷ [] → place ≡ length rows + 1 → get_or places page 0 ≡ 0 → ((g : ℕ) → get_or row g 0 ≡ 0)
    → (q g : ℕ) → word_of (table_of (set places page place) now) q g ≡ word_of (table_of old rows) q g
word-new old places rows now page place row same are lt is next none empty q g =
    let at = ap (λ (r : List ℕ). get_or r g 0) (row-new old places rows now page place row same are lt is next q) in
    elim (cases_eq q page) [
      | inl here ↦ (
          let on : (q == page) ≡ true = eq-eqb q page here in
          let was : row_of (table_of old rows) q ≡ [] = row-at old rows q ∙ ap (row_at rows) (sym (same q) ∙ ap (λ (p : ℕ). get_or places p 0) here ∙ none) in
          let nothing : word_of (table_of old rows) q g ≡ 0 = ap (λ (r : List ℕ). get_or r g 0) was ∙ get_or_past [] g 0 (omega arith) in
          at ∙ rw on (empty g ∙ sym nothing))
      | inr other ↦ (let off : (q == page) ≡ false = ne_eqb q page other in at ∙ rw off refl)
    ]

pub rows-new : (old places : List ℕ) (rows now : List (List ℕ)) (page place : ℕ) (row : List ℕ) → ((q : ℕ) → get_or places q 0 ≡ get_or old q 0) → ArePlaces old (length rows)
    → page < length places → now ≡ rows ++ row ∷ [] → place ≡ length rows + 1
    → ((size : ℕ) → length old ≤ size → page < size → length places ≤ size) → length row ≤ 2 ^ 26
    → AreRows (table_of old rows) → page < 2 ^ 32 → AreRows (table_of (set places page place) now)
rows-new old places rows now page place row same are lt is next few short all less = record {
  pages = (
      let was = length-map old (row_at rows) in
      let longer = length-map (set places page place) (row_at now) in
      let size = length-set places page place in
      let most = all.pages in
      let fits = few (2 ^ 32) (omega arith) less in
      omega arith);
  groups = λ q. (
      let at = ap (λ (r : List ℕ). length r) (row-new old places rows now page place row same are lt is next q) in
      let most = all.groups q in
      elim (cases_Bool (q == page)) [
        | inl on ↦ (let at' : length (row_of (table_of (set places page place) now) q) ≡ length row = at ∙ rw on refl in omega arith)
        | inr off ↦ (let at' : length (row_of (table_of (set places page place) now) q) ≡ length (row_of (table_of old rows) q) = at ∙ rw off refl in omega arith)
      ]);
}
