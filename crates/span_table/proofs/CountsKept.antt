-- The counters and the event words, where one worker steps.
use Rattle.std.proofs.Common.{◌≡◌, ◌≢◌, ℕ, ◌+◌, ◌%◌, ◌<◌, List, length, get_or, set, sym, ap, subst, ◌∙◌, ⊎_elim, ◌≤◌, arith}
use mathlib.Core.Logic.{dite}
use mathlib.Core.Option.{some}
use native.Mathlib.Decide.{ℕ_discrete}
use lib.ListN.{get_elem?}
use lib.Seq.{set-get_or}
use Rattle.std.proofs.Math.Nat.{mod-add-mod}
use Rattle.std.proofs.lemmas.List.{get_or-set_same, get_or-set_other}
use Rattle.sweep_laws.proofs.Naming.{at_set}
use Rattle.sweep_laws.proofs.Totals.{total_set}
use Rattle.span_laws.specs.Calls.{added}
use Rattle.span_laws.specs.declared.view.Part.{Part}
use Rattle.span_table.specs.Running.{Counted, all_added, events_told}

module _ (events : ℕ → ℕ) (parts : List Part) (ws : List ℕ) (k : Counted events parts ws) (n : ℕ) (own : Part) (at : get_elem? parts n ≡ some own) (h : Part) where
  -- what all add to a word that the log adds nothing to
  sum_same : (word : ℕ) → added word h.log ≡ added word own.log → all_added word (set parts n h) ≡ all_added word parts
  sum_same word same = let t = total_set (λ (x : Part). added word x.log) parts n own h at in omega arith

  -- the log tells as many events as before
  events_kept : events_told h.log ≡ events_told own.log → (m : ℕ) (x : Part) → m < 70 → get_elem? (set parts n h) m ≡ some x → get_or ws (m + 5) 0 ≡ (events m + events_told x.log) % 18446744073709551616
  events_kept same m x low e = ⊎_elim
      (λ (t : (m ≡ n) × (h ≡ x)). subst (λ (z : ℕ × Part). z.0 < 70 → get_or ws (z.0 + 5) 0 ≡ (events z.0 + events_told z.1.log) % 18446744073709551616) (λ i. (sym t.0 i, t.1 i))
      (λ below. k.each n own below at ∙ ap (λ (z : ℕ). (events n + z) % 18446744073709551616) (sym same)) low)
      (λ (t : (m ≢ n) × (get_elem? parts m ≡ some x)). k.each m x low t.1)
      (at_set parts n m h x e)

  -- the log adds nothing and tells no event, and a word that is none of these is written
  pub counts_still : ((word : ℕ) → added word h.log ≡ added word own.log) → events_told h.log ≡ events_told own.log → (i x : ℕ) → ((j : ℕ) → 2 ≤ j → j < 75 → j ≢ i) → Counted events (set parts n h) (set ws i x)
  counts_still same none i x apart = record {
    sums = λ j low. get_or-set_other ws i (j + 2) x 0 (apart (j + 2) (omega arith) (omega arith)) ∙ k.sums j low ∙ ap (λ (z : ℕ). z % 18446744073709551616) (sym (sum_same (j + 2) (same (j + 2))));
    each = λ m y low e. get_or-set_other ws i (m + 5) x 0 (apart (m + 5) (omega arith) (omega arith)) ∙ events_kept none m y low e;
  }

  -- the same, where a word is read
  pub counts_found : ((word : ℕ) → added word h.log ≡ added word own.log) → events_told h.log ≡ events_told own.log → (i : ℕ) → Counted events (set parts n h) (set ws i (get_or ws i 0))
  counts_found same none i = subst (Counted events (set parts n h)) (sym (set-get_or ws i 0)) record {
    sums = λ j low. k.sums j low ∙ ap (λ (z : ℕ). z % 18446744073709551616) (sym (sum_same (j + 2) (same (j + 2))));
    each = events_kept none;
  }

  -- an event is counted, and the log says so
  pub counts_event : ((word : ℕ) → added word h.log ≡ added word own.log) → events_told h.log ≡ events_told own.log + 1 → n < 70 → n + 5 < length ws → Counted events (set parts n h) (set ws (n + 5) ((get_or ws (n + 5) 0 + 1) % 18446744073709551616))
  counts_event same one few inside = record {
    sums = λ j low. get_or-set_other ws (n + 5) (j + 2) ((get_or ws (n + 5) 0 + 1) % 18446744073709551616) 0 (λ e. omega arith) ∙ k.sums j low ∙ ap (λ (z : ℕ). z % 18446744073709551616) (sym (sum_same (j + 2) (same (j + 2))));
    each = λ m x low e. ⊎_elim
        (λ (t : (m ≡ n) × (h ≡ x)). subst (λ (z : ℕ × Part). get_or (set ws (n + 5) ((get_or ws (n + 5) 0 + 1) % 18446744073709551616)) (z.0 + 5) 0 ≡ (events z.0 + events_told z.1.log) % 18446744073709551616) (λ i. (sym t.0 i, t.1 i)) here)
        (λ (t : (m ≢ n) × (get_elem? parts m ≡ some x)). get_or-set_other ws (n + 5) (m + 5) ((get_or ws (n + 5) 0 + 1) % 18446744073709551616) 0 (λ z. t.0 (omega arith)) ∙ k.each m x low t.1)
        (at_set parts n m h x e);
  }
    where
      more : (events n + events_told own.log) + 1 ≡ events n + events_told h.log
      more = omega arith

      here : get_or (set ws (n + 5) ((get_or ws (n + 5) 0 + 1) % 18446744073709551616)) (n + 5) 0 ≡ (events n + events_told h.log) % 18446744073709551616
      here = get_or-set_same ws (n + 5) ((get_or ws (n + 5) 0 + 1) % 18446744073709551616) 0 inside
          ∙ ap (λ (z : ℕ). (z + 1) % 18446744073709551616) (k.each n own few at)
          ∙ mod-add-mod (events n + events_told own.log) 18446744073709551616 1
          ∙ ap (λ (z : ℕ). z % 18446744073709551616) more

  -- a number is added to a counter, and the log says so
  pub counts_added : (i m : ℕ) → i < 3 → i + 2 < length ws → added (i + 2) h.log ≡ m + added (i + 2) own.log → ((word : ℕ) → word ≢ i + 2 → added word h.log ≡ added word own.log) → events_told h.log ≡ events_told own.log → Counted events (set parts n h) (set ws (i + 2) ((get_or ws (i + 2) 0 + m) % 18446744073709551616))
  counts_added i m low inside more same none = record {
    each = λ q y few e. get_or-set_other ws (i + 2) (q + 5) ((get_or ws (i + 2) 0 + m) % 18446744073709551616) 0 (λ z. omega arith) ∙ events_kept none q y few e;
    sums = λ j l. dite (ℕ_discrete j i)
        (λ e. ap (λ (z : ℕ). get_or (set ws (i + 2) ((get_or ws (i + 2) 0 + m) % 18446744073709551616)) (z + 2) 0) e
        ∙ get_or-set_same ws (i + 2) ((get_or ws (i + 2) 0 + m) % 18446744073709551616) 0 inside
        ∙ ap (λ (z : ℕ). (z + m) % 18446744073709551616) (k.sums i low)
        ∙ mod-add-mod (all_added (i + 2) parts) 18446744073709551616 m
        ∙ ap (λ (z : ℕ). z % 18446744073709551616) (sum_more i m more)
        ∙ sym (ap (λ (z : ℕ). all_added (z + 2) (set parts n h) % 18446744073709551616) e))
        (λ d. get_or-set_other ws (i + 2) (j + 2) ((get_or ws (i + 2) 0 + m) % 18446744073709551616) 0 (λ e. d (omega arith)) ∙ k.sums j l
        ∙ ap (λ (z : ℕ). z % 18446744073709551616) (sym (sum_same (j + 2) (same (j + 2) (λ e. d (omega arith))))));
  }
    where
      sum_more : (i m : ℕ) → added (i + 2) h.log ≡ m + added (i + 2) own.log → all_added (i + 2) parts + m ≡ all_added (i + 2) (set parts n h)
      sum_more i m e = let t = total_set (λ (x : Part). added (i + 2) x.log) parts n own h at in omega arith
