use Rattle.psb_bytes.specs.contracts.ids.ObjectOrd.TheImpl.{cmp-value as derived_cmp}
use Rattle.peer_lists.proofs.Trees.{by_object}
use Rattle.asked_objects.proofs.Sorting.{sorted_debts}
use Rattle.asked_objects.proofs.listing.debts_there.Goals as goal

pub returns : goal.returns
returns c = sorted_debts derived_cmp.it by_object c.args.account.now.row c.in_ok-debts.debts.items c.sort_unstable.new.self.items c.requires c.in_ok-debts.ensures c.sort_unstable.ensures.permutation c.sort_unstable.ensures.sorted
