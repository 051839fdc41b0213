use Rattle.std.proofs.Common.{◌≡◌, ◌∙◌, ◌≤◌, ap, Bool, ℕ, Some, subst, sym, map, string_bytes}
use Rattle.std.specs.Option.{unwrap_or}
use Rattle.std.specs.Str.Parse.{ExplainsUnsignedError, HasUnsignedDigitsIfOk, ParsesUnsigned}
use Rattle.clap.specs.Words.{found_of}
use Rattle.commands.specs.Options.{IsRun}
use Rattle.commands.proofs.RunParsed.{digit_read, flag_read, run_few}
use Rattle.commands.proofs.options.read_options.Goals as goal

-- what is read is what the words ask for
read_as : (c : goal.Joined-matches) (n : ℕ) (each : Bool) → IsRun (map string_bytes c.args.words.now) n each → (c.unwrap_or.result ≡ n) × (c.get_flag.result ≡ each)
read_as c n each is =
    let read = c.in-Ok.ensures.read n each is in
    let one : c.get_one.result ≡ Some n =
    digit_read _ (λ bs r. ParsesUnsigned 32 10 bs r × ExplainsUnsignedError 10 bs r × HasUnsignedDigitsIfOk bs r) n c.get_one.result (run_few _ n each is) (c.get_one.ensures.value _ read.background) (λ u x g. g.0) in
    (c.unwrap_or.ensures ∙ ap (λ o. unwrap_or o 1) one, flag_read (found_of c.in-Ok.matches) n each c.get_flag.result read c.get_flag.ensures.value c.get_flag.ensures.other)

pub returns-in-Ok : goal.returns-in-Ok
returns-in-Ok c =
    let words = map string_bytes c.args.words.now in
    let of = c.requires in
    let same = read_as c of.0 of.1 of.2 in
    record {
      asked = subst (λ (n : ℕ). IsRun words n c.get_flag.result) (sym same.0) (subst (λ (b : Bool). IsRun words of.0 b) (sym same.1) of.2);
      only = λ n each is. read_as c n each is;
      few = subst (λ (n : ℕ). n ≤ 4) (sym same.0) (run_few words of.0 of.1 of.2);
    }
