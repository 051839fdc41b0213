-- What the parse of the words of `run` finds.
use Rattle.std.proofs.Common.{◌≡◌, ◌≤◌, ℕ, Bool, true, false, List, [], ◌∷◌, ◌++◌, Option, Some, None, Result, Ok, Err, inl, inr, refl, ap, ap₂, ◌∙◌, arith, codes}
use Rattle.std.specs.Str.Parse.{ParsesUnsigned}
use Rattle.clap.specs.declared.parser.matches.Found.{Found}
use Rattle.clap.specs.Words.{App, HasMatchesOf, one_text, ReadsOne, Rule, Text, found_of, is_simple, matches_of, new_app, new_rule, one_of, takes, with_rule}
use Rattle.clap.specs.declared.parser.matches.ArgMatches.{ArgMatches}
use Rattle.clap.proofs.WalkLemmas.{one_text-rows}
use Rattle.clap.specs.declared.builder.ArgAction.TheVariants.{SetTrue}
use Rattle.clap.proofs.OnLiterals.{clap_on_literals}
use Rattle.commands.specs.Options.{AreOptions, IsNumber, IsRun, digit, each_word}
use Rattle.commands.specs.HasRead.{HasRead, flag}
use Rattle.commands.proofs.RunForms.{digit_cases}

abbrev pub background_rule : Rule
background_rule = record (new_rule (codes "background")) { long = Some (codes "background"); defaults = codes "1" ∷ [] }

abbrev pub each_rule : Rule
each_rule = record (new_rule (codes "each")) { long = Some (codes "each"); action = Some SetTrue }

abbrev pub run_app : App
run_app = with_rule (with_rule (new_app (codes "run")) background_rule) each_rule

pub simple : is_simple run_app ≡ true
unfolding clap_on_literals
simple = refl

-- what `clap` makes of words
record Reads (words : List Text) (n : ℕ) (each : Bool) : Type 0 where
  taken : takes run_app words ≡ true
  background : one_of (codes "background") (matches_of run_app words) ≡ Some (digit n)
  each_is : one_of (codes "each") (matches_of run_app words) ≡ Some (flag each)

none_reads : Reads (codes "run" ∷ []) 1 false
unfolding clap_on_literals
none_reads = record { taken = refl; background = refl; each_is = refl }

each_reads : Reads (codes "run" ∷ each_word ∷ []) 1 true
unfolding clap_on_literals
each_reads = record { taken = refl; background = refl; each_is = refl }

joined_reads : (n : ℕ) → n ≤ 4 → Reads (codes "run" ∷ (codes "--background=" ++ digit n) ∷ []) n false
unfolding clap_on_literals
joined_reads = digit_cases (λ n. Reads (codes "run" ∷ (codes "--background=" ++ digit n) ∷ []) n false)
    (record { taken = refl; background = refl; each_is = refl }) (record { taken = refl; background = refl; each_is = refl }) (record { taken = refl; background = refl; each_is = refl })
    (record { taken = refl; background = refl; each_is = refl }) (record { taken = refl; background = refl; each_is = refl })

split_reads : (n : ℕ) → n ≤ 4 → Reads (codes "run" ∷ codes "--background" ∷ digit n ∷ []) n false
unfolding clap_on_literals
split_reads = digit_cases (λ n. Reads (codes "run" ∷ codes "--background" ∷ digit n ∷ []) n false)
    (record { taken = refl; background = refl; each_is = refl }) (record { taken = refl; background = refl; each_is = refl }) (record { taken = refl; background = refl; each_is = refl })
    (record { taken = refl; background = refl; each_is = refl }) (record { taken = refl; background = refl; each_is = refl })

each_joined_reads : (n : ℕ) → n ≤ 4 → Reads (codes "run" ∷ each_word ∷ (codes "--background=" ++ digit n) ∷ []) n true
unfolding clap_on_literals
each_joined_reads = digit_cases (λ n. Reads (codes "run" ∷ each_word ∷ (codes "--background=" ++ digit n) ∷ []) n true)
    (record { taken = refl; background = refl; each_is = refl }) (record { taken = refl; background = refl; each_is = refl }) (record { taken = refl; background = refl; each_is = refl })
    (record { taken = refl; background = refl; each_is = refl }) (record { taken = refl; background = refl; each_is = refl })

each_split_reads : (n : ℕ) → n ≤ 4 → Reads (codes "run" ∷ each_word ∷ codes "--background" ∷ digit n ∷ []) n true
unfolding clap_on_literals
each_split_reads = digit_cases (λ n. Reads (codes "run" ∷ each_word ∷ codes "--background" ∷ digit n ∷ []) n true)
    (record { taken = refl; background = refl; each_is = refl }) (record { taken = refl; background = refl; each_is = refl }) (record { taken = refl; background = refl; each_is = refl })
    (record { taken = refl; background = refl; each_is = refl }) (record { taken = refl; background = refl; each_is = refl })

joined_each_reads : (n : ℕ) → n ≤ 4 → Reads (codes "run" ∷ (codes "--background=" ++ digit n) ∷ each_word ∷ []) n true
unfolding clap_on_literals
joined_each_reads = digit_cases (λ n. Reads (codes "run" ∷ (codes "--background=" ++ digit n) ∷ each_word ∷ []) n true)
    (record { taken = refl; background = refl; each_is = refl }) (record { taken = refl; background = refl; each_is = refl }) (record { taken = refl; background = refl; each_is = refl })
    (record { taken = refl; background = refl; each_is = refl }) (record { taken = refl; background = refl; each_is = refl })

split_each_reads : (n : ℕ) → n ≤ 4 → Reads (codes "run" ∷ codes "--background" ∷ digit n ∷ each_word ∷ []) n true
unfolding clap_on_literals
split_each_reads = digit_cases (λ n. Reads (codes "run" ∷ codes "--background" ∷ digit n ∷ each_word ∷ []) n true)
    (record { taken = refl; background = refl; each_is = refl }) (record { taken = refl; background = refl; each_is = refl }) (record { taken = refl; background = refl; each_is = refl })
    (record { taken = refl; background = refl; each_is = refl }) (record { taken = refl; background = refl; each_is = refl })

-- the words of a number alone, and beside `--each`
number_reads : (number : List Text) (n : ℕ) → IsNumber number n → Reads (codes "run" ∷ number) n false
number_reads number n is = elim is.spelled [
  | inl e ↦ rw e (joined_reads n is.few)
  | inr e ↦ rw e (split_reads n is.few)
]

first_reads : (number : List Text) (n : ℕ) → IsNumber number n → Reads (codes "run" ∷ each_word ∷ number) n true
first_reads number n is = elim is.spelled [
  | inl e ↦ rw e (each_joined_reads n is.few)
  | inr e ↦ rw e (each_split_reads n is.few)
]

last_reads : (number : List Text) (n : ℕ) → IsNumber number n → Reads (codes "run" ∷ (number ++ each_word ∷ [])) n true
last_reads number n is = elim is.spelled [
  | inl e ↦ rw e (joined_each_reads n is.few)
  | inr e ↦ rw e (split_each_reads n is.few)
]

-- what is read of options is what they ask for
options_read : (options : List Text) (n : ℕ) (each : Bool) → AreOptions options n each → Reads (codes "run" ∷ options) n each
options_read options n each (inl is) = rw (is.0, is.1, is.2) none_reads
options_read options n each (inr (inl is)) = rw (is.0, is.1, is.2) each_reads
options_read options n each (inr (inr (inl is))) = rw is.1 (number_reads options n is.0)
options_read options n each (inr (inr (inr is))) = elim is.2 [
  | inl e ↦ rw (e, is.3) (first_reads is.0 n is.1)
  | inr e ↦ rw (e, is.3) (last_reads is.0 n is.1)
]

pub run_reads : (words : List Text) (n : ℕ) (each : Bool) → IsRun words n each → (takes run_app words ≡ true) × (one_of (codes "background") (matches_of run_app words) ≡ Some (digit n)) × (one_of (codes "each") (matches_of run_app words) ≡ Some (flag each))
run_reads words n each is = rw is.1 (let reads = options_read is.0 n each is.2 in (reads.taken, reads.background, reads.each_is))

-- the same, by the getters of the matches that the parse found
pub found_read : (words : List Text) (m : ArgMatches) (a : App) (texts : List Text) → a ≡ run_app → texts ≡ words → HasMatchesOf a texts m → (n : ℕ) (each : Bool) → IsRun words n each → HasRead (found_of m) n each
found_read words m a texts app_is same has n each is =
    let reads = run_reads words n each is in
    let rows = (has (ap is_simple app_is ∙ simple)).0 ∙ ap₂ matches_of app_is same in
    record {
      background = one_text-rows (found_of m) (codes "background") ∙ ap (one_of (codes "background")) rows ∙ reads.1;
      each_is = one_text-rows (found_of m) (codes "each") ∙ ap (one_of (codes "each")) rows ∙ reads.2;
    }

-- a digit is read as its number
pub digit_read : (E : Type 0) (G : List ℕ → Result ℕ E → Type 0) (n : ℕ) (r : Option ℕ) → n ≤ 4 → ReadsOne G (digit n) r → ((u : List ℕ) (x : Result ℕ E) → G u x → ParsesUnsigned 32 10 u x) → r ≡ Some n
digit_read E G n (Some v) few reads only = digit_cases (λ k. ReadsOne G (digit k) (Some v) → Some v ≡ Some k)
    (λ h. ap Some (only (digit 0) (Ok v) h).1) (λ h. ap Some (only (digit 1) (Ok v) h).1) (λ h. ap Some (only (digit 2) (Ok v) h).1) (λ h. ap Some (only (digit 3) (Ok v) h).1) (λ h. ap Some (only (digit 4) (Ok v) h).1) n few reads
digit_read E G n None few reads only = absurd (digit_cases (λ k. ReadsOne G (digit k) None → ⊥)
    (λ h. only (digit 0) (Err h.0) h.1 (((omega arith, (omega arith, tt)), omega arith)))
    (λ h. only (digit 1) (Err h.0) h.1 (((omega arith, (omega arith, tt)), omega arith)))
    (λ h. only (digit 2) (Err h.0) h.1 (((omega arith, (omega arith, tt)), omega arith)))
    (λ h. only (digit 3) (Err h.0) h.1 (((omega arith, (omega arith, tt)), omega arith)))
    (λ h. only (digit 4) (Err h.0) h.1 (((omega arith, (omega arith, tt)), omega arith))) n few reads)

-- the flag that is read is the truth value
pub flag_read : (f : Found) (n : ℕ) (each r : Bool) → HasRead f n each → (one_text f (codes "each") ≡ Some (codes "true") → r ≡ true) → (one_text f (codes "each") ≡ Some (codes "false") → r ≡ false) → r ≡ each
flag_read f n true r read shown hidden = shown read.each_is
flag_read f n false r read shown hidden = hidden read.each_is

-- the number of the options of `run` is from 0 to 4
options_few : (options : List Text) (n : ℕ) (each : Bool) → AreOptions options n each → n ≤ 4
options_few options n each (inl is) = rw is.1 (omega arith)
options_few options n each (inr (inl is)) = rw is.1 (omega arith)
options_few options n each (inr (inr (inl is))) = is.0.few
options_few options n each (inr (inr (inr is))) = is.1.few

pub run_few : (words : List Text) (n : ℕ) (each : Bool) → IsRun words n each → n ≤ 4
run_few words n each is = options_few is.0 n each is.2
