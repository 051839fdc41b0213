-- Rule 9: the lines of a profile, one more at a time, and the buckets that are due.
use Rattle.std.proofs.Common.{◌≡◌, ◌≢◌, ℕ, suc, ◌+◌, ◌-◌, ◌^◌, ◌<◌, ◌≤◌, Bool, true, false, ◌&&◌, eqb, ltb, List, [], ◌∷◌, length, get_or, Some, MatchBool, refl, sym, ◌∙◌, ap, subst, arith, ◌⊎◌, inl, inr}
use Rattle.std.specs.List.{slice_get}
use Rattle.std.proofs.lemmas.Bool.{cases_eq, eq-eqb, ne_eqb, le-ltb}
use Rattle.std.proofs.lemmas.Option.{slice_get_within, slice_get-get_or}
use Rattle.page_alloc.specs.Lists.{In, AllApart, count, one_if}
use Rattle.profile_cycle.specs.declared.counts.Count.{Count}
use Rattle.cycle_history.specs.declared.Prof.{Prof}
use Rattle.cycle_history.specs.Requests.{Marking}
use Rattle.cycle_history.specs.Objects.{Object}
use Rattle.cycle_history.specs.Orders.{IsProfBefore}
use Rattle.cycle_history.specs.Profile.{Bucket, Samples, IsProf, IsChanged, IsProfileIn, allocs_at, frees_at, bucket_of, is_sample}
use Rattle.cycle_history.proofs.Sampling.{AreAlike, allocs-alike, frees-alike}
use Rattle.report_check.specs.Published.{IsRightProf, IsDue}
use Rattle.report_check.specs.Printed.{HasNumbers, AreRightProfs, IsFirstWrongProf, AllPrinted}
use Rattle.report_check.proofs.Summed.{in-get}

-- ---- the order

prof-trans : (a b c : Prof) → IsProfBefore a b → IsProfBefore b c → IsProfBefore a c
prof-trans a b c ab bc = elim ab [
  | inl less ↦ elim bc [ inl more ↦ inl (omega arith) | inr same ↦ inl (let e = same.0 in omega arith) ]
  | inr here ↦ (
      let e = here.0 in
      elim bc [
        | inl more ↦ inl (omega arith)
        | inr same ↦ inr (
          e ∙ same.0,
          elim here.1 [
            | inl low ↦ elim same.1 [ inl high ↦ inl (omega arith) | inr at ↦ inl (let f = at.0 in omega arith) ]
            | inr at ↦ elim same.1 [ inl high ↦ inl (let f = at.0 in omega arith) | inr up ↦ inr (at.0 ∙ up.0, (let f = at.1 in let g = up.1 in omega arith)) ]
          ],
        )
      ])
]

some-same : {x y : Prof} → Some x ≡ Some y → x ≡ y
some-same h = cc

module _ (IsRight : Prof → Type 0) (lines : List Prof) where
  pub profs-none : AreRightProfs IsRight lines 0
  profs-none = record { right = λ k line lt. absurd (omega arith); order = λ j k a b less lt. absurd (omega arith) }

  pub profs-more : (n : ℕ) (b : Prof) → slice_get lines n ≡ Some b → IsRight b → ((a : Prof) → 1 ≤ n → slice_get lines (n - 1) ≡ Some a → IsProfBefore a b) → AreRightProfs IsRight lines n → AreRightProfs IsRight lines (n + 1)
  profs-more n b at is after are = record {
    right = λ k line lt there. elim (cases_eq k n) [
      | inl same ↦ (
          let e : b ≡ line = some-same (sym at ∙ subst (λ (i : ℕ). slice_get lines i ≡ Some line) same there) in
          subst IsRight e is)
      | inr other ↦ are.right k line (omega arith) there
    ];
    order = λ j k x y less lt jx ky. elim (cases_eq k n) [
      | inr other ↦ are.order j k x y less (omega arith) jx ky
      | inl same ↦ (
          let e : b ≡ y = some-same (sym at ∙ subst (λ (i : ℕ). slice_get lines i ≡ Some y) same ky) in
          subst (λ (z : Prof). IsProfBefore x z) e (elim (cases_eq j (n - 1)) [
            | inl last ↦ after x (omega arith) (subst (λ (i : ℕ). slice_get lines i ≡ Some x) last jx)
            | inr early ↦ (
                let m = get_or lines (n - 1) b in
                let within = slice_get_within lines n b at in
                let here : slice_get lines (n - 1) ≡ Some m = slice_get-get_or lines (n - 1) b (omega arith) in
                prof-trans x m b (are.order j (n - 1) x m (omega arith) (omega arith) jx here) (after m (omega arith) here))
          ]))
    ];
  }

  pub profs-next : (slice : List Prof) (n : ℕ) (d : Prof) → slice ≡ lines → n < length slice → IsRight (get_or slice n d) → (n ≡ 0) ⊎ IsProfBefore (get_or slice (n - 1) d) (get_or slice n d) → AreRightProfs IsRight lines n
      → AreRightProfs IsRight lines (n + 1)
  profs-next slice n d same lt is order are =
      let at : slice_get lines n ≡ Some (get_or slice n d) = sym (ap (λ (xs : List Prof). slice_get xs n) same) ∙ slice_get-get_or slice n d lt in
      profs-more n (get_or slice n d) at is
      (λ a some there. elim order [
        | inl none ↦ absurd (omega arith)
        | inr before ↦ (
            let here : slice_get lines (n - 1) ≡ Some (get_or slice (n - 1) d) = sym (ap (λ (xs : List Prof). slice_get xs (n - 1)) same) ∙ slice_get-get_or slice (n - 1) d (omega arith) in
            subst (λ (x : Prof). IsProfBefore x (get_or slice n d)) (some-same (sym here ∙ there)) before)
      ])
      are

  pub profs-wrong : (n : ℕ) (line : Prof) → n < 2 ^ 62 → slice_get lines n ≡ Some line → ¬ IsRight line → AreRightProfs IsRight lines n → IsFirstWrongProf IsRight lines n
  profs-wrong n line few at off are = record { few = few; line = line; here = at; wrong = inl off; before = are }

  pub profs-disorder : (n : ℕ) (a line : Prof) → n < 2 ^ 62 → 1 ≤ n → slice_get lines (n - 1) ≡ Some a → slice_get lines n ≡ Some line → ¬ IsProfBefore a line → AreRightProfs IsRight lines n → IsFirstWrongProf IsRight lines n
  profs-disorder n a line few some before at off are = record {
    few = few;
    line = line;
    here = at;
    wrong = inr (record { place = n - 1; earlier = a; among = before; before = omega arith; wrong = off });
    before = are;
  }

  pub profs-all : (n : ℕ) → length lines ≤ n → AreRightProfs IsRight lines n → AreRightProfs IsRight lines (length lines)
  profs-all n all are = record {
    right = λ k line lt at. are.right k line (omega arith) at;
    order = λ j k a b less lt ja kb. are.order j k a b less (omega arith) ja kb;
  }

  profs-in : AreRightProfs IsRight lines (length lines) → (line : Prof) → In line lines → IsRight line
  profs-in are line h = (let r = in-get lines line h in are.right r.0 line (slice_get_within lines r.0 line r.1) r.1)

rising-of : (xs : List Prof) → ((j k : ℕ) (x y : Prof) → j < k → slice_get xs j ≡ Some x → slice_get xs k ≡ Some y → IsProfBefore x y) → AllApart IsProfBefore xs
rising-of [] rise = tt
rising-of (x ∷ xs) rise = (
  (λ y h. (let r = in-get xs y h in rise 0 (suc r.0) x y (omega arith) refl r.1)),
  rising-of xs (λ j k a b less atj atk. rise (suc j) (suc k) a b (omega arith) atj atk),
)

-- ---- a profile of right lines, in which all is printed that is due

pub profile-met : (each : Bool) (marked : Marking) (s : Samples) (last : ℕ) (objects : List Object) (lines : List Prof) → AreRightProfs (IsRightProf each marked s last objects) lines (length lines)
    → AllPrinted each marked s last objects lines → IsProfileIn each marked s last objects lines
profile-met true marked s last objects lines are all = record {
  order = rising-of lines (λ j k x y less atj atk. are.order j k x y less (slice_get_within lines k y atk) atj atk);
  right = λ line h. (let r = profs-in (IsRightProf true marked s last objects) lines are line h in (r.0, r.1, r.2));
  changed = λ m line h e lt. (profs-in (IsRightProf true marked s last objects) lines are line h).3 m e lt;
  each = λ m b lt changed. all (suc m) b (inr (refl, lt, (m, refl, changed)));
  last_each = λ b some. all last b (inl (refl, some));
}
profile-met false marked s last objects lines are all = record {
  order = rising-of lines (λ j k x y less atj atk. are.order j k x y less (slice_get_within lines k y atk) atj atk);
  right = λ line h. profs-in (IsRightProf false marked s last objects) lines are line h;
  each = λ b some. all last b (inl (refl, some));
}

-- ---- a line beside its numbers

one-none : (test : Object → Bool) (objects : List Object) → ((o : Object) → test o ≡ false) → count test objects ≡ 0
one-none test [] none = refl
one-none test (o ∷ objects) none = (let e = ap one_if (none o) in let r = one-none test objects none in omega arith)

and-off : (a : Bool) → (a && false) ≡ false
and-off true = refl
and-off false = refl

-- nothing was placed before mark end 0
allocs-none : (s : Samples) (objects : List Object) (b : Bucket) → allocs_at s objects 0 b ≡ 0
allocs-none s objects b = one-none (λ o. is_sample s b o && ltb o.cycle 0) objects (λ o. ap (λ (x : Bool). is_sample s b o && x) (le-ltb o.cycle 0 (omega arith)) ∙ and-off (is_sample s b o))

module _ (marked : Marking) (s : Samples) (last : ℕ) (objects : List Object) (line : Prof) (now : Count) (allocs : now.allocs ≡ allocs_at s objects line.mark (bucket_of line))
    (frees : now.frees ≡ frees_at marked s objects line.mark (bucket_of line)) where
  told-prof : HasNumbers line now → IsProf marked s objects line
  told-prof has = record { some = has.some; allocs = has.allocs ∙ allocs; frees = has.frees ∙ frees }

  prof-told : IsProf marked s objects line → HasNumbers line now
  prof-told is = record {
    mark = elim (cases_eq line.mark 0) [
      | inl none ↦ (
          let a = is.allocs ∙ ap (λ (m : ℕ). allocs_at s objects m (bucket_of line)) none ∙ allocs-none s objects (bucket_of line) in
          let some = is.some in
          absurd (omega arith))
      | inr other ↦ omega arith
    ];
    some = is.some;
    allocs = is.allocs ∙ sym allocs;
    frees = is.frees ∙ sym frees;
  }

  right-prof : (each : Bool) → IsRightProf each marked s last objects line → IsProf marked s objects line
  right-prof true right = right.2
  right-prof false right = right.1

  pub told-not : (each : Bool) → ¬ HasNumbers line now → ¬ IsRightProf each marked s last objects line
  told-not each off right = off (prof-told (right-prof each right))

  pub told-last : (each : Bool) → (each ≡ false) ⊎ (last ≤ line.mark) → HasNumbers line now → MatchBool (eqb line.mark last) (IsRightProf each marked s last objects line) (¬ IsRightProf each marked s last objects line)
  told-last false when has = elim (cases_eq line.mark last) [
    | inl same ↦ rw (eq-eqb line.mark last same) (same, told-prof has)
    | inr other ↦ rw (ne_eqb line.mark last other) (λ right. other right.0)
  ]
  told-last true when has = elim when [
    | inl off ↦ absurd (let e : true ≡ false = off in cc)
    | inr le ↦ elim (cases_eq line.mark last) [
      | inl same ↦ rw (eq-eqb line.mark last same) (has.mark, (let e = same in omega arith), told-prof has, (λ m e lt. absurd (omega arith)))
      | inr other ↦ rw (ne_eqb line.mark last other) (λ right. (let up = right.1 in absurd (other (omega arith))))
    ]
  ]

  pub told-changed : (each : Bool) (before : Count) (r : Bool) → each ≡ true → line.mark < last → HasNumbers line now → before.allocs ≡ allocs_at s objects (line.mark - 1) (bucket_of line)
      → before.frees ≡ frees_at marked s objects (line.mark - 1) (bucket_of line)
      → MatchBool r ((now.allocs ≢ before.allocs) ⊎ (now.frees ≢ before.frees)) (¬ ((now.allocs ≢ before.allocs) ⊎ (now.frees ≢ before.frees)))
      → MatchBool r (IsRightProf each marked s last objects line) (¬ IsRightProf each marked s last objects line)
  told-changed false before r on lt has a f differ = absurd (let e : false ≡ true = on in cc)
  told-changed true before true on lt has a f differ = (
    has.mark,
    (let l = lt in omega arith),
    told-prof has,
    (λ m e less. (
        let k : line.mark - 1 ≡ m = omega arith in
        let a' : before.allocs ≡ allocs_at s objects m (bucket_of line) = a ∙ ap (λ (j : ℕ). allocs_at s objects j (bucket_of line)) k in
        let f' : before.frees ≡ frees_at marked s objects m (bucket_of line) = f ∙ ap (λ (j : ℕ). frees_at marked s objects j (bucket_of line)) k in
        let na : now.allocs ≡ allocs_at s objects (suc m) (bucket_of line) = allocs ∙ ap (λ (j : ℕ). allocs_at s objects j (bucket_of line)) e in
        let nf : now.frees ≡ frees_at marked s objects (suc m) (bucket_of line) = frees ∙ ap (λ (j : ℕ). frees_at marked s objects j (bucket_of line)) e in
        elim differ [
          | inl other ↦ inl (λ same. other (na ∙ (same ∙ sym a')))
          | inr other ↦ inr (λ same. other (nf ∙ (same ∙ sym f')))
        ])),
  )
  told-changed true before false on lt has a f differ = λ right. (
      let some = has.mark in
      let m = line.mark - 1 in
      let e : line.mark ≡ suc m = omega arith in
      let na : now.allocs ≡ allocs_at s objects (suc m) (bucket_of line) = allocs ∙ ap (λ (j : ℕ). allocs_at s objects j (bucket_of line)) e in
      let nf : now.frees ≡ frees_at marked s objects (suc m) (bucket_of line) = frees ∙ ap (λ (j : ℕ). frees_at marked s objects j (bucket_of line)) e in
      differ (elim (right.3 m e (omega arith)) [
        | inl other ↦ inl (λ same. other (sym na ∙ (same ∙ a)))
        | inr other ↦ inr (λ same. other (sym nf ∙ (same ∙ f)))
      ]))

-- ---- samples that say the same

module _ (marked : Marking) (s s' : Samples) (objects : List Object) (alike : AreAlike s s' objects) where
  prof-alike : (line : Prof) → IsProf marked s objects line → IsProf marked s' objects line
  prof-alike line is = record {
    some = is.some;
    allocs = is.allocs ∙ allocs-alike s s' objects line.mark (bucket_of line) alike;
    frees = is.frees ∙ frees-alike marked s s' objects line.mark (bucket_of line) alike;
  }

  changed-alike : (m : ℕ) (b : Bucket) → IsChanged marked s objects m b → IsChanged marked s' objects m b
  changed-alike m b changed = elim changed [
    | inl other ↦ inl (λ same. other (allocs-alike s s' objects (suc m) b alike ∙ (same ∙ sym (allocs-alike s s' objects m b alike))))
    | inr other ↦ inr (λ same. other (frees-alike marked s s' objects (suc m) b alike ∙ (same ∙ sym (frees-alike marked s s' objects m b alike))))
  ]

  pub right-alike : (each : Bool) (last : ℕ) (line : Prof) → IsRightProf each marked s last objects line → IsRightProf each marked s' last objects line
  right-alike true last line right = (right.0, right.1, prof-alike line right.2, (λ m e lt. changed-alike m (bucket_of line) (right.3 m e lt)))
  right-alike false last line right = (right.0, prof-alike line right.1)

  pub due-alike : (each : Bool) (last m : ℕ) (b : Bucket) → IsDue each marked s last objects m b → IsDue each marked s' last objects m b
  due-alike each last m b due = elim due [
    | inl here ↦ inl (here.0, (let e = allocs-alike s s' objects last b alike in let some = here.1 in omega arith))
    | inr early ↦ inr (early.0, early.1, (early.2.0, early.2.1, changed-alike early.2.0 b early.2.2))
  ]
