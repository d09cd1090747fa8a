use Rattle.fault_pages.proofs.page.text_page_of.Goals as goal

pub returns : goal.returns
returns c = c.text_with.ensures
