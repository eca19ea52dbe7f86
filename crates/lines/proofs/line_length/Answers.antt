use Rattle.std.proofs.Common.{◌≡◌, ◌∙◌, sym, position, eqb, rules, tests}
use Rattle.std.proofs.lemmas.Iterator.{YieldsList-from_slice}
use Rattle.std.proofs.lemmas.Iterator.Search.{position_from_yields_List}
use Rattle.lines.proofs.Lines.{line_at, line_whole}
use Rattle.lines.proofs.line_length.Goals as goal

pub returns-in-Some : goal.returns-in-Some
returns-in-Some c =
    let place : c.position.result ≡ position (λ b. eqb b 10) c.args.text.now =
    position_from_yields_List (λ b. eqb b 10) _ _ c.position.result c.position.ensures.ran (YieldsList-from_slice c.args.text.now cc) (λ x b q k. search (rules, tests)) in
    line_at _ _ (sym place ∙ c.in-Some.is)

pub returns-in-None : goal.returns-in-None
returns-in-None c =
    let place : c.position.result ≡ position (λ b. eqb b 10) c.args.text.now =
    position_from_yields_List (λ b. eqb b 10) _ _ c.position.result c.position.ensures.ran (YieldsList-from_slice c.args.text.now cc) (λ x b q k. search (rules, tests)) in
    line_whole _ (sym place ∙ c.in-None.is)
