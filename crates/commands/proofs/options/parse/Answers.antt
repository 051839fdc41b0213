use Rattle.std.proofs.Common.{◌≡◌, ◌∙◌, ap₂, rules, refl, map, string_bytes}
use Rattle.std.proofs.lemmas.Result.{IfErr-weaker, IfOk-weaker}
use Rattle.clap.specs.Words.{app_of, rule_of, takes, with_rule}
use Rattle.commands.proofs.RunParsed.{background_rule, each_rule, found_read, run_app, run_reads}
use Rattle.commands.proofs.options.parse.Goals as goal

pub returns-clause-read : goal.returns-clause-read
returns-clause-read c =
    let background_is : rule_of c.default_value-background.result ≡ background_rule = search rules in
    let each_is : rule_of c.action-each.result ≡ each_rule = search rules in
    let app_is : app_of c.in_ok-command.command ≡ run_app = c.in_ok-command.ensures.shape (search rules) ∙ ap₂ with_rule (c.in_ok-arg.ensures.shape (search rules) ∙ ap₂ with_rule c.new-3.ensures.app background_is) each_is in
    let parse = c.try_get_matches_from in
    IfOk-weaker parse.result _ _ (λ m has. found_read (map string_bytes c.args.words.now) m _ _ app_is (search rules) has) parse.ensures.matches

pub returns-clause-memory : goal.returns-clause-memory
returns-clause-memory c =
    let background_is : rule_of c.default_value-background.result ≡ background_rule = search rules in
    let each_is : rule_of c.action-each.result ≡ each_rule = search rules in
    let app_is : app_of c.in_ok-command.command ≡ run_app = c.in_ok-command.ensures.shape (search rules) ∙ ap₂ with_rule (c.in_ok-arg.ensures.shape (search rules) ∙ ap₂ with_rule c.new-3.ensures.app background_is) each_is in
    let parse = c.try_get_matches_from in
    let of = c.requires in
    IfErr-weaker parse.result _ _ (λ e h. h (ap₂ takes app_is refl ∙ (run_reads (map string_bytes c.args.words.now) of.0 of.1 of.2).0)) parse.ensures.passes
