-- What a hand's tally counted in one part of a call and then in another, it counted in both.
use Rattle.std.proofs.Common.{◌≡◌, ℕ, ◌+◌, ◌<◌, List, [], ◌∷◌, ◌++◌, get_or, drop, length, refl, ap, sym, ◌∙◌, append_assoc}
use Rattle.std.proofs.lemmas.List.{append-nil, at_drop_more}
use Rattle.profile_cycle.specs.declared.calls.What.TheVariants.{Freed}
use Rattle.profile_cycle.specs.History.{RingId, Standing, calls}
use Rattle.span_state.specs.MarkSet.{MarkSet, dead_of}
use Rattle.span_state.specs.declared.sweep.SweepNote.{SweepNote}
use Rattle.span_set.specs.declared.hand.Hand.{Hand}
use Rattle.span_set.specs.Tallies.{Frees, MayCount, frees_all, freeing}

-- one death more of a list
pub frees-next : (xs : List ℕ) (i : ℕ) (t : Standing) → i < length xs → frees_all (drop (i + 1) xs) (calls t (Freed (get_or xs i 0))) ≡ frees_all (drop i xs) t
frees-next xs i t l = sym (at_drop_more (λ (ys : List ℕ). frees_all ys t) xs i 0 l)

frees_ring : (xs : List ℕ) (t : Standing) → (frees_all xs t).ring ≡ t.ring
frees_ring [] t = refl
frees_ring (x ∷ xs) t = frees_ring xs (calls t (Freed x))

-- frees stay in their ring
pub freeing-ring : (m : MarkSet) (notes : List SweepNote) (t : Standing) → (freeing m notes t).ring ≡ t.ring
freeing-ring m [] t = refl
freeing-ring m (n ∷ notes) t = freeing-ring m notes (frees_all (dead_of m n.page) t) ∙ frees_ring (dead_of m n.page) t

pub freeing-append : (m : MarkSet) (earlier later : List SweepNote) (t : Standing) → freeing m (earlier ++ later) t ≡ freeing m later (freeing m earlier t)
freeing-append m [] later t = refl
freeing-append m (n ∷ earlier) later t = freeing-append m earlier later (frees_all (dead_of m n.page) t)

module _ (m : MarkSet) where
  -- neither notes nor the tally changed
  pub frees-none : (a b : Hand) → b.notes.items ≡ a.notes.items → b.tally ≡ a.tally → Frees m a b
  frees-none a b notes tally = record { more = []; notes = notes ∙ sym (append-nil a.notes.items); tally = tally }

  pub frees-both : (a b c : Hand) → Frees m a b → Frees m b c → Frees m a c
  frees-both a b c x y = record {
    more = x.more ++ y.more;
    notes = y.notes ∙ ap (λ (l : List SweepNote). l ++ y.more) x.notes ∙ append_assoc a.notes.items x.more y.more;
    tally = y.tally ∙ ap (freeing m y.more) x.tally ∙ sym (freeing-append m x.more y.more a.tally);
  }

  -- what may be counted before it may be counted after
  pub may-still : (r : RingId) (a b : Hand) → MayCount r m a.tally → Frees m a b → MayCount r m b.tally
  may-still r a b may x = record { ring = ap (λ (t : Standing). t.ring) x.tally ∙ freeing-ring m x.more a.tally ∙ may.ring; dead = may.dead }

  -- only the notes and the tally of the hands matter
  pub frees-as : (a b c d : Hand) → Frees m a b → c.notes.items ≡ a.notes.items → c.tally ≡ a.tally → d.notes.items ≡ b.notes.items → d.tally ≡ b.tally → Frees m c d
  frees-as a b c d x n t n' t' = record {
    more = x.more;
    notes = n' ∙ x.notes ∙ ap (λ (l : List SweepNote). l ++ x.more) (sym n);
    tally = t' ∙ x.tally ∙ ap (freeing m x.more) (sym t);
  }
