use Rattle.fault_pages.specs.Pages.{explained}
use Rattle.fault_pages.proofs.Said.{first_said, second_said}
use Rattle.fault_pages.proofs.page.page_of.Goals as goal

pub returns-in-Some : goal.returns-in-Some
unfolding explained
returns-in-Some c = first_said _ _ _ _ c.text_page_of.ensures c.in-Some.is

pub returns-in-None : goal.returns-in-None
unfolding explained
returns-in-None c = second_said _ _ _ _ c.text_page_of.ensures c.in-None.is c.later_page_of.ensures
