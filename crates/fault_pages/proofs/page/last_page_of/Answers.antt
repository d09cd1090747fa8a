use Rattle.fault_pages.specs.Pages.{last_explained}
use Rattle.fault_pages.proofs.Said.{first_said, second_said}
use Rattle.fault_pages.proofs.page.last_page_of.Goals as goal

pub returns-in-Some : goal.returns-in-Some
unfolding last_explained
returns-in-Some c = first_said _ _ _ _ c.savepoint_page_of.ensures c.in-Some.is

pub returns-in-None : goal.returns-in-None
unfolding last_explained
returns-in-None c = second_said _ _ _ _ c.savepoint_page_of.ensures c.in-None.is c.other_page_of.ensures
