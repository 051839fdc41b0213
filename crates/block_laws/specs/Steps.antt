-- What each kind of step makes of spines and blocks.
use Rattle.std.specs.Prelude.{ℕ, suc, ◌+◌, ◌%◌, ◌==◌, cond}
use Rattle.block_laws.specs.Blocked.{BlockState, Free, Spare, InSpine, swept_part}

-- One value of a function changes.
abbrev pub put_one : {A : Type 0} → (ℕ → A) → ℕ → A → ℕ → A
put_one f a v q = cond (q == a) v (f q)

abbrev pub put_two : {A : Type 0} → (ℕ → ℕ → A) → ℕ → ℕ → A → ℕ → ℕ → A
put_two f a c v q r = cond (q == a) (put_one (f q) c v r) (f q r)

abbrev pub put_three : {A : Type 0} → (ℕ → ℕ → ℕ → A) → ℕ → ℕ → ℕ → A → ℕ → ℕ → ℕ → A
put_three f a c d v q r t = cond (q == a) (put_two (f q) c d v r t) (f q r t)

-- No block is drawn.
abbrev pub no_blocks : BlockState
no_blocks = record { drawn = λ p. 0; entry = λ s e. 0; cell = λ p x k. 0; uses = λ p x. Free; spare = λ n. 0 }

-- Worker n draws the next block of the swept sets' part, as its spare.
abbrev pub draws : ℕ → ℕ → BlockState → BlockState
draws g n b = record b {
  drawn = put_one b.drawn (swept_part g) (b.drawn (swept_part g) + 1);
  uses = put_two b.uses (swept_part g) (b.drawn (swept_part g)) (Spare n);
  spare = put_one b.spare n (b.drawn (swept_part g) + 1);
}

-- Worker n puts its spare x in an entry of a swept set's spine.
abbrev pub puts : ℕ → ℕ → ℕ → ℕ → ℕ → BlockState → BlockState
puts g n s e x b = record b { entry = put_two b.entry s e (suc x); uses = put_two b.uses (swept_part g) x (InSpine s e); spare = put_one b.spare n 0 }

-- A cell of a block is filled.
abbrev pub fills : ℕ → ℕ → ℕ → ℕ → BlockState → BlockState
fills p x k v b = record b { cell = put_three b.cell p x k v }

-- At a mark end all blocks of the unswept sets' part are given up, and all spares.
abbrev pub turns : ℕ → BlockState → BlockState
turns g b = record {
  drawn = λ p. cond (p == swept_part g) (b.drawn p) 0;
  entry = λ s e. cond (s % 2 == swept_part g) (b.entry s e) 0;
  cell = λ p x k. cond (p == swept_part g) (b.cell p x k) 0;
  uses = λ p x. cond (p == swept_part g) (b.uses p x) Free;
  spare = λ n. 0;
}
