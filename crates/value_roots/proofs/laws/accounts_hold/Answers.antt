use Rattle.value_roots.proofs.Owned as owned
use Rattle.value_roots.proofs.Process as processes
use Rattle.value_roots.proofs.Later as lists
use Rattle.value_roots.proofs.laws.accounts_hold.Goals as goal

pub returns : goal.returns
returns c = record {
  roots = owned.roots;
  process = processes.process_holds;
  later = λ k k' i x x' names names' words grows named frees carriers all.
      lists.later k k' i x x' names names' grows named words frees carriers all;
  several = lists.several;
  first_accounted = lists.first_accounted;
  second_accounted = lists.second_accounted;
  first_leads = lists.first_leads;
  second_leads = lists.second_leads;
  first_reaches = lists.first_reaches;
  second_reaches = lists.second_reaches;
}
