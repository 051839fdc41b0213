-- What is read of the options of `run`.
use Rattle.std.specs.Prelude.{◌≡◌, ℕ, List, Bool, true, false, Some, codes}
use Rattle.clap.specs.Words.{one_text}
use Rattle.clap.specs.declared.parser.matches.Found.{Found}
use Rattle.commands.specs.Options.{digit}

-- a truth value as text
abbrev pub flag : Bool → List ℕ
flag true = codes "true"
flag false = codes "false"

-- The texts of both options are found, given or not.
pub record HasRead (found : Found) (n : ℕ) (each : Bool) : Type 0 where
  pub background : one_text found (codes "background") ≡ Some (digit n)
  pub each_is : one_text found (codes "each") ≡ Some (flag each)
