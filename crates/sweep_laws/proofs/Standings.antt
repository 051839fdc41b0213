-- What a page's word, or a list that names it, says of its standing.
use Rattle.std.proofs.Common.{◌≡◌, ℕ, ◌+◌, ◌<◌, ◌≤◌, ◌⊎◌, inl, inr, ⊎_elim, subst, arith}
use Rattle.sweep_laws.specs.OwnedLives.{IsWord}
use Rattle.sweep_laws.specs.Standing.{Tally, Standing, is_free, is_unswept, is_sweeping, is_swept, is_stale, is_cached, Page}

-- by the word
pub free_word : (g : ℕ) (t : Tally) → 4 ≤ g → Standing g t → t.word ≡ 0 → t.sweeping + t.held + t.cached + t.queued ≡ 0
free_word g t low (is_free a b) e = b
free_word g t low (is_unswept a b c) e = b
free_word g t low (is_sweeping a b c) e = absurd (omega arith)
free_word g t low (is_swept a b c) e = absurd (omega arith)
free_word g t low (is_stale a b c) e = absurd (omega arith)
free_word g t low (is_cached a b c) e = absurd (omega arith)

pub unswept_word : (g : ℕ) (t : Tally) → 4 ≤ g → Standing g t → t.word + 2 ≡ g → (t.sweeping + t.held + t.cached + t.queued ≡ 0) × (t.own ≡ 1)
unswept_word g t low (is_free a b) e = absurd (omega arith)
unswept_word g t low (is_unswept a b c) e = (b, c)
unswept_word g t low (is_sweeping a b c) e = absurd (omega arith)
unswept_word g t low (is_swept a b c) e = absurd (omega arith)
unswept_word g t low (is_stale a b c) e = absurd (omega arith)
unswept_word g t low (is_cached a b c) e = absurd (omega arith)

pub sweeping_word : (g : ℕ) (t : Tally) → 4 ≤ g → Standing g t → t.word + 1 ≡ g → (t.sweeping ≡ 1) × (t.held + t.cached + t.queued ≡ 0)
sweeping_word g t low (is_free a b) e = absurd (omega arith)
sweeping_word g t low (is_unswept a b c) e = absurd (omega arith)
sweeping_word g t low (is_sweeping a b c) e = (b, c)
sweeping_word g t low (is_swept a b c) e = absurd (omega arith)
sweeping_word g t low (is_stale a b c) e = absurd (omega arith)
sweeping_word g t low (is_cached a b c) e = absurd (omega arith)

pub swept_word : (g : ℕ) (t : Tally) → 4 ≤ g → Standing g t → t.word ≡ g → (t.sweeping + t.cached ≡ 0) × (t.held + t.queued ≡ 1)
swept_word g t low (is_free a b) e = absurd (omega arith)
swept_word g t low (is_unswept a b c) e = absurd (omega arith)
swept_word g t low (is_sweeping a b c) e = absurd (omega arith)
swept_word g t low (is_swept a b c) e = (b, c)
swept_word g t low (is_stale a b c) e = absurd (omega arith)
swept_word g t low (is_cached a b c) e = absurd (omega arith)

pub cached_word : (g : ℕ) (t : Tally) → 4 ≤ g → Standing g t → (t.word ≡ g + 1) ⊎ (t.word ≡ g + 3) → (t.cached ≡ 1) × (t.sweeping + t.held + t.queued ≡ 0)
cached_word g t low (is_free a b) e = absurd (⊎_elim (λ (x : t.word ≡ g + 1). let z : ⊥ = omega arith in z) (λ (x : t.word ≡ g + 3). let z : ⊥ = omega arith in z) e)
cached_word g t low (is_unswept a b c) e = absurd (⊎_elim (λ (x : t.word ≡ g + 1). let z : ⊥ = omega arith in z) (λ (x : t.word ≡ g + 3). let z : ⊥ = omega arith in z) e)
cached_word g t low (is_sweeping a b c) e = absurd (⊎_elim (λ (x : t.word ≡ g + 1). let z : ⊥ = omega arith in z) (λ (x : t.word ≡ g + 3). let z : ⊥ = omega arith in z) e)
cached_word g t low (is_swept a b c) e = absurd (⊎_elim (λ (x : t.word ≡ g + 1). let z : ⊥ = omega arith in z) (λ (x : t.word ≡ g + 3). let z : ⊥ = omega arith in z) e)
cached_word g t low (is_stale a b c) e = (b, c)
cached_word g t low (is_cached a b c) e = (b, c)

-- by a list that names the page
pub sweeping_list : (g : ℕ) (t : Tally) → Standing g t → 0 < t.sweeping → (t.word + 1 ≡ g) × (t.sweeping ≡ 1) × (t.held + t.cached + t.queued ≡ 0)
sweeping_list g t (is_free a b) e = absurd (omega arith)
sweeping_list g t (is_unswept a b c) e = absurd (omega arith)
sweeping_list g t (is_sweeping a b c) e = (a, b, c)
sweeping_list g t (is_swept a b c) e = absurd (omega arith)
sweeping_list g t (is_stale a b c) e = absurd (omega arith)
sweeping_list g t (is_cached a b c) e = absurd (omega arith)

pub held_list : (g : ℕ) (t : Tally) → Standing g t → 0 < t.held → (t.word ≡ g) × (t.held ≡ 1) × (t.sweeping + t.cached + t.queued ≡ 0)
held_list g t (is_free a b) e = absurd (omega arith)
held_list g t (is_unswept a b c) e = absurd (omega arith)
held_list g t (is_sweeping a b c) e = absurd (omega arith)
held_list g t (is_swept a b c) e = (a, omega arith, omega arith)
held_list g t (is_stale a b c) e = absurd (omega arith)
held_list g t (is_cached a b c) e = absurd (omega arith)

pub queued_list : (g : ℕ) (t : Tally) → Standing g t → 0 < t.queued → (t.word ≡ g) × (t.queued ≡ 1) × (t.sweeping + t.cached + t.held ≡ 0)
queued_list g t (is_free a b) e = absurd (omega arith)
queued_list g t (is_unswept a b c) e = absurd (omega arith)
queued_list g t (is_sweeping a b c) e = absurd (omega arith)
queued_list g t (is_swept a b c) e = (a, omega arith, omega arith)
queued_list g t (is_stale a b c) e = absurd (omega arith)
queued_list g t (is_cached a b c) e = absurd (omega arith)

pub cached_list : (g : ℕ) (t : Tally) → Standing g t → 0 < t.cached → ((t.word ≡ g + 1) ⊎ (t.word ≡ g + 3)) × (t.cached ≡ 1) × (t.sweeping + t.held + t.queued ≡ 0)
cached_list g t (is_free a b) e = absurd (omega arith)
cached_list g t (is_unswept a b c) e = absurd (omega arith)
cached_list g t (is_sweeping a b c) e = absurd (omega arith)
cached_list g t (is_swept a b c) e = absurd (omega arith)
cached_list g t (is_stale a b c) e = (inl a, b, c)
cached_list g t (is_cached a b c) e = (inr a, b, c)

-- the word of a standing is one of the six
pub standing_word : (g : ℕ) (t : Tally) → Standing g t → IsWord g t.word
standing_word g t (is_free a b) = inl a
standing_word g t (is_unswept a b c) = inr (inl a)
standing_word g t (is_sweeping a b c) = inr (inr (inl a))
standing_word g t (is_swept a b c) = inr (inr (inr (inl a)))
standing_word g t (is_stale a b c) = inr (inr (inr (inr (inl a))))
standing_word g t (is_cached a b c) = inr (inr (inr (inr (inr a))))

-- no list names a page twice
pub lists_once : (g : ℕ) (t : Tally) → Page g t → (t.sweeping ≤ 1) × (t.held ≤ 1) × (t.cached ≤ 1)
lists_once g t k = go k.standing
  where
    go : Standing g t → (t.sweeping ≤ 1) × (t.held ≤ 1) × (t.cached ≤ 1)
    go (is_free a b) = (omega arith, omega arith, omega arith)
    go (is_unswept a b c) = (omega arith, omega arith, omega arith)
    go (is_sweeping a b c) = (omega arith, omega arith, omega arith)
    go (is_swept a b c) = (omega arith, omega arith, omega arith)
    go (is_stale a b c) = (omega arith, omega arith, omega arith)
    go (is_cached a b c) = (omega arith, omega arith, omega arith)

-- two tallies with the same numbers
pub same_tally : (t u : Tally) → t.word ≡ u.word → t.sweeping ≡ u.sweeping → t.held ≡ u.held → t.cached ≡ u.cached → t.queued ≡ u.queued → t.own ≡ u.own → t.waiting ≡ u.waiting → t.listed ≡ u.listed → t ≡ u
same_tally t u a b c d e f g h = λ i. record { word = a i; sweeping = b i; held = c i; cached = d i; queued = e i; own = f i; waiting = g i; listed = h i }

-- a page whose entries in unswept sets and popped lists change
pub page_entries : (g : ℕ) (t u : Tally) → Page g t → t.word ≡ u.word → t.sweeping ≡ u.sweeping → t.held ≡ u.held → t.cached ≡ u.cached → t.queued ≡ u.queued → (t.word + 2 ≡ g → u.own ≡ 1) → u.waiting ≤ 1 → t.listed ≡ u.listed → Page g u
page_entries g t u k a b c d e own waiting l = record {
  standing = go k.standing;
  waiting = waiting;
  listed = subst (λ (z : ℕ). z ≤ 1) l k.listed;
  listed_word = λ x. subst (λ (w : ℕ). (w ≡ 0) ⊎ (w ≡ g) ⊎ (w ≡ g + 3)) a (k.listed_word (omega arith));
}
  where
    go : Standing g t → Standing g u
    go (is_free x y) = is_free (omega arith) (omega arith)
    go (is_unswept x y z) = is_unswept (omega arith) (omega arith) (own x)
    go (is_sweeping x y z) = is_sweeping (omega arith) (omega arith) (omega arith)
    go (is_swept x y z) = is_swept (omega arith) (omega arith) (omega arith)
    go (is_stale x y z) = is_stale (omega arith) (omega arith) (omega arith)
    go (is_cached x y z) = is_cached (omega arith) (omega arith) (omega arith)

-- a swept page that goes from a hand into a cell, or out of it
pub page_swept : (g : ℕ) (t u : Tally) → Page g t → t.word ≡ g → t.word ≡ u.word → t.sweeping ≡ u.sweeping → t.cached ≡ u.cached → t.sweeping + t.cached ≡ 0 → u.held + u.queued ≡ 1 → t.waiting ≡ u.waiting → t.listed ≡ u.listed → Page g u
page_swept g t u k is a b c none one w l = record {
  standing = is_swept (omega arith) (omega arith) one;
  waiting = let m = k.waiting in omega arith;
  listed = let m = k.listed in omega arith;
  listed_word = λ x. inr (inl (omega arith));
}
