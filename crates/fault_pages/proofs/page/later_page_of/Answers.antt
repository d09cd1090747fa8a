use Rattle.fault_pages.specs.Pages.{later_explained}
use Rattle.fault_pages.proofs.Said.{first_said, second_said}
use Rattle.fault_pages.proofs.page.later_page_of.Goals as goal

pub returns-in-Some : goal.returns-in-Some
unfolding later_explained
returns-in-Some c = first_said _ _ _ _ c.import_page_of.ensures c.in-Some.is

pub returns-in-None : goal.returns-in-None
unfolding later_explained
returns-in-None c = second_said _ _ _ _ c.import_page_of.ensures c.in-None.is c.last_page_of.ensures
