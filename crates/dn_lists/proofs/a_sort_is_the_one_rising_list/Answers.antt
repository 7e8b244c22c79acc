use Rattle.dn_lists.proofs.Sorting.{rises_in_order, rises_from_sorted, sorted_from_rises, permutation_in_order, in_order_is}
use Rattle.dn_lists.specs.InOrder.{in_order}
use Rattle.dn_lists.proofs.a_sort_is_the_one_rising_list.Goals as goal

pub returns-clause-sorted : goal.returns-clause-sorted
returns-clause-sorted g c = λ cmp total xs. sorted_from_rises cmp total (in_order cmp xs) (rises_in_order cmp total xs)

pub returns-clause-same_elements : goal.returns-clause-same_elements
returns-clause-same_elements g c = λ cmp xs. permutation_in_order cmp xs

pub returns-clause-no_other : goal.returns-clause-no_other
returns-clause-no_other g c = λ cmp total same xs ys moves sorted. in_order_is cmp total same xs ys moves (rises_from_sorted cmp total ys sorted)
