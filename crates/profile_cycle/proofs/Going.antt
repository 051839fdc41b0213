-- A publication goes on: counts are moved one by one, by the driver alone.
use Rattle.std.proofs.Common.{◌≡◌, ◌≢◌, ℕ, ◌+◌, ◌%◌, ◌^◌, Bool, true, false, true≢false, not, ◌||◌, ◌∷◌, refl, sym, ap, ◌∙◌, inl, inr}
use Rattle.std.proofs.Math.Dec.{eqb}
use Rattle.std.proofs.Math.Nat.{add-mod-mod}
use Rattle.std.proofs.lemmas.Bool.{cases_eq}
use Rattle.profile_cycle.specs.declared.calls.View.{View}
use Rattle.profile_cycle.specs.declared.sight.Sight.{Sight}
use Rattle.profile_cycle.specs.declared.words.Kind.{Kind}
use Rattle.profile_cycle.specs.declared.words.Word.{Word}
use Rattle.profile_cycle.specs.declared.words.Word.TheVariants.{Published, Waiting}
use Rattle.profile_cycle.specs.Rule.{moves, has, stands, GoesOn, IsAlone, IsMoved, IsPublishing}
use Rattle.profile_cycle.specs.Words.{after, before, is_odd, place}
use Rattle.profile_cycle.proofs.Allowed.{bucket_of, has-else, has-here, has-more, moved-in, moved-not, row_of}
use Rattle.profile_cycle.proofs.Parts.{publication-sum}
use Rattle.profile_cycle.proofs.Seats.{bool-cases}
use Rattle.profile_cycle.proofs.Totals.{place-once}

-- ---- what stays

pub goes-view : {s s' : Sight} → GoesOn s s' → s'.view ≡ s.view
goes-view g = ap (λ (x : Sight). x.view) g.same

pub goes-alone : {s s' : Sight} → GoesOn s s' → IsAlone s → IsAlone s'
goes-alone g a = record { drives = ap (λ (v : View). v.drives) (goes-view g) ∙ a.drives; out = ap (λ (v : View). v.out) (goes-view g) ∙ a.out }

pub goes-none : (s : Sight) → IsPublishing s → GoesOn s s
goes-none s p = record { same = refl; publishing = p; still = λ k b m. m }

pub goes-more : (s s' s'' : Sight) → GoesOn s s' → GoesOn s' s'' → GoesOn s s''
goes-more s s' s'' f g = record {
  same = g.same ∙ ap (λ (x : Sight). record x { moved = s''.moved }) f.same;
  publishing = g.publishing;
  still = λ k b m. g.still k b (f.still k b m);
}

-- ---- one count is moved

abbrev kind_of : Word → Kind
kind_of (Published k b) = k
kind_of (Waiting k odd b) = k

abbrev waits_on : Word → Bool
waits_on (Published k b) = false
waits_on (Waiting k odd b) = true

apart : (k l : Kind) (o : Bool) (b c : ℕ) → place (Published k b) ≢ place (Waiting l o c)
apart k l o b c e = true≢false (sym (ap waits_on (place-once (Published k b) (Waiting l o c) e)))

not-self : (o : Bool) → not o ≡ o → ⊥
not-self true e = true≢false (sym e)
not-self false e = true≢false e

or-false : (a b : Bool) → (a || b) ≡ false → b ≡ false
or-false true b e = absurd (true≢false e)
or-false false b e = e

module _ (s : Sight) (p : IsPublishing s) (k : Kind) (b : ℕ) where
  abbrev to : Word
  to = Published k b

  abbrev from : Word
  from = Waiting k (not (is_odd s.view.cycle)) b

  abbrev pub next : Sight
  next = moves (place from) (moves (place to) s)

  -- a word that is not 0 is not moved yet
  waits-still : stands from s % 2 ^ 64 ≢ 0 → has (place from) s.moved ≡ false
  waits-still some = bool-cases (has (place from) s.moved) (has (place from) s.moved ≡ false) (λ on. absurd (some (ap (λ (z : ℕ). z % 2 ^ 64) (moved-in from s on)))) (λ off. off)

  pub raised : (found : ℕ) → found ≡ stands from s % 2 ^ 64 → found ≢ 0 → (stands to s + found) % 2 ^ 64 ≡ after to s.view % 2 ^ 64
  raised found e some =
      let off = waits-still (λ zero. some (e ∙ zero)) in
      let y = before to s.view in
      let z = before from s.view in
      ap (λ (x : ℕ). (x + found) % 2 ^ 64) (moved-not to s (p.paired k b ∙ off)) ∙ ap (λ (x : ℕ). (y + x) % 2 ^ 64) (e ∙ ap (λ (x : ℕ). x % 2 ^ 64) (moved-not from s off)) ∙ add-mod-mod y z (2 ^ 64)
      ∙ ap (λ (x : ℕ). x % 2 ^ 64) (publication-sum s.view k b p.by)

  else-two : (x : ℕ) → place from ≢ x → place to ≢ x → has x next.moved ≡ has x s.moved
  else-two x f t = has-else x (place from) (place to ∷ s.moved) f ∙ has-else x (place to) s.moved t

  pair : (l : Kind) (c : ℕ) → has (place (Published l c)) next.moved ≡ has (place (Waiting l (not (is_odd s.view.cycle)) c)) next.moved
  pair l c = elim (cases_eq (place to) (place (Published l c))) [
    | inl same ↦ (
        let word = place-once to (Published l c) same in
        let here : has (place from) next.moved ≡ true = has-here (place from) (place to ∷ s.moved) in
        let there : has (place to) next.moved ≡ true = has-more (place to) (place from) (place to ∷ s.moved) (has-here (place to) s.moved) in
        ap (λ (x : ℕ). has x next.moved) (sym same) ∙ there ∙ sym here
        ∙ ap (λ (z : Kind × ℕ). has (place (Waiting z.0 (not (is_odd s.view.cycle)) z.1)) next.moved) (λ i. (ap kind_of word i, ap bucket_of word i)))
    | inr other ↦ (
        let o = not (is_odd s.view.cycle) in
        let far : place from ≢ place (Waiting l o c) = λ e. (let word = place-once from (Waiting l o c) e in other (ap (λ (z : Kind × ℕ). place (Published z.0 z.1)) (λ i. (ap kind_of word i, ap bucket_of word i)))) in
        else-two (place (Published l c)) (λ e. apart l k o c b (sym e)) other ∙ p.paired l c ∙ sym (else-two (place (Waiting l o c)) far (apart k l o b c)))
  ]

  pub moved-next : IsMoved next k b
  moved-next = ap (λ (z : ℕ). z % 2 ^ 64) (moved-in from next (has-here (place from) (place to ∷ s.moved)))

  pub goes-next : GoesOn s next
  goes-next = record {
    same = refl;
    publishing = record {
      by = p.by;
      lent = p.lent;
      paired = pair;
      later = λ l c. else-two (place (Waiting l (is_odd s.view.cycle) c))
          (λ e. not-self (is_odd s.view.cycle) (ap row_of (place-once from (Waiting l (is_odd s.view.cycle) c) e)))
          (apart k l (is_odd s.view.cycle) b c) ∙ p.later l c;
    };
    still = λ l c m. (let w = Waiting l (not (is_odd s.view.cycle)) c in
        bool-cases (has (place w) next.moved) (IsMoved next l c)
        (λ on. ap (λ (z : ℕ). z % 2 ^ 64) (moved-in w next on))
        (λ off. ap (λ (z : ℕ). z % 2 ^ 64) (moved-not w next off
        ∙ sym (moved-not w s (or-false (eqb (place to) (place w)) (has (place w) s.moved) (or-false (eqb (place from) (place w)) (eqb (place to) (place w) || has (place w) s.moved) off)))) ∙ m));
  }
