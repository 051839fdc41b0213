-- The numbers of a line.
use Rattle.std.specs.Prelude.{◌≡◌, ℕ, ◌^◌, ◌<◌, List, [], ◌∷◌, ◌++◌, codes, decimal, false}
use Rattle.std.specs.Fmt.{digits}

-- A number below the bound, a blank, and what follows it.
pub record IsHead (bound : ℕ) (bytes : List ℕ) (n : ℕ) (rest : List ℕ) : Type 0 where
  pub spelled : bytes ≡ decimal n ++ 32 ∷ rest
  pub small : n < bound

-- A number below the bound, and nothing behind it.
pub record IsLast (bound : ℕ) (bytes : List ℕ) (n : ℕ) : Type 0 where
  pub spelled : bytes ≡ decimal n ++ []
  pub small : n < bound

-- An address of 64 bits in hexadecimal digits, and nothing behind it.
pub record IsAddress (bytes : List ℕ) (n : ℕ) : Type 0 where
  pub spelled : bytes ≡ digits 16 false n
  pub small : n < 2 ^ 64

-- What stands behind the cycle of a Take line.
pub record IsTaken (bytes : List ℕ) (page pages class : ℕ) : Type 0 where
  pub spelled : bytes ≡ codes "take " ++ (decimal page ++ 32 ∷ (decimal pages ++ 32 ∷ (decimal class ++ [])))
  pub page_fits : page < 2 ^ 32
  pub pages_fit : pages < 2 ^ 32
  pub class_fits : class < 2 ^ 8

-- What stands behind the cycle of a Miss line.
pub record IsMissed (bytes : List ℕ) (pages class : ℕ) : Type 0 where
  pub spelled : bytes ≡ codes "miss " ++ (decimal pages ++ 32 ∷ (decimal class ++ []))
  pub pages_fit : pages < 2 ^ 32
  pub class_fits : class < 2 ^ 8

-- What stands behind the cycle of a line with this word and a run of pages.
pub record IsRunOfPages (word bytes : List ℕ) (page pages : ℕ) : Type 0 where
  pub spelled : bytes ≡ word ++ (decimal page ++ 32 ∷ (decimal pages ++ []))
  pub page_fits : page < 2 ^ 32
  pub pages_fit : pages < 2 ^ 32

-- What stands behind the cycle of a Cut line.
pub record IsCutOut (bytes : List ℕ) (proc page pages class : ℕ) : Type 0 where
  pub spelled : bytes ≡ codes "cut " ++ (decimal proc ++ 32 ∷ (decimal page ++ 32 ∷ (decimal pages ++ 32 ∷ (decimal class ++ []))))
  pub proc_fits : proc < 2 ^ 32
  pub page_fits : page < 2 ^ 32
  pub pages_fit : pages < 2 ^ 32
  pub class_fits : class < 2 ^ 8

-- What stands behind the cycle of a line with this word, a processor and pages of its page cache.
pub record IsBlock (word bytes : List ℕ) (proc page pages : ℕ) : Type 0 where
  pub spelled : bytes ≡ word ++ (decimal proc ++ 32 ∷ (decimal page ++ 32 ∷ (decimal pages ++ [])))
  pub proc_fits : proc < 2 ^ 32
  pub page_fits : page < 2 ^ 32
  pub pages_fit : pages < 2 ^ 32

-- Behind the cycle stands no line of spans, of a miss or of scavenged pages.
pub record IsNoPlainChange (bytes : List ℕ) : Type 0 where
  pub take : (page pages class : ℕ) → ¬ IsTaken bytes page pages class
  pub give : (page pages : ℕ) → ¬ IsRunOfPages (codes "give ") bytes page pages
  pub miss : (pages class : ℕ) → ¬ IsMissed bytes pages class
  pub scav : (page pages : ℕ) → ¬ IsRunOfPages (codes "scav ") bytes page pages

-- Behind the cycle stands no line of a page cache.
pub record IsNoCacheChange (bytes : List ℕ) : Type 0 where
  pub cut : (proc page pages class : ℕ) → ¬ IsCutOut bytes proc page pages class
  pub pull : (proc page pages : ℕ) → ¬ IsBlock (codes "pull ") bytes proc page pages
  pub drop : (proc page pages : ℕ) → ¬ IsBlock (codes "drop ") bytes proc page pages
