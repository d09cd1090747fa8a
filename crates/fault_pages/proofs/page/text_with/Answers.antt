use Rattle.std.proofs.Common.{◌∙◌, option_copied, option_map, ap, sym}
use Rattle.fault_pages.proofs.Said.{said}
use Rattle.fault_pages.proofs.page.text_with.Goals as goal

pub returns-in-Some : goal.returns-in-Some
returns-in-Some c =
    sym (said c.args.pages.now c.args.code.now ∙ ap (option_map (λ page. page.1.now)) (sym c.page_with.ensures)
    ∙ ap (λ page. option_map (λ page. page.1.now) (option_copied page)) c.in-Some.is)

pub returns-in-None : goal.returns-in-None
returns-in-None c =
    sym (said c.args.pages.now c.args.code.now ∙ ap (option_map (λ page. page.1.now)) (sym c.page_with.ensures)
    ∙ ap (λ page. option_map (λ page. page.1.now) (option_copied page)) c.in-None.is)
