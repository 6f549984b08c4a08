-- What the values of the code stand for.
use Rattle.psb_machine.specs.Deals.{Deal, StoreFresh, StoreSwap, Cancel, PutBack, Replace, Facts}
use Rattle.deals.specs.declared.deal.DealView.{DealView}
use Rattle.deals.specs.declared.deal.DealView.TheVariants as view
use Rattle.psb_machine.specs.Settling.{Reply, Accepts, Refuses}
use Rattle.deals.specs.declared.reply.AnswerView.{AnswerView}
use Rattle.deals.specs.declared.reply.AnswerView.TheVariants as answer
use Rattle.deals.specs.declared.facts.Facts.{Facts as FactsHere}
use Rattle.psb_model.specs.Proposing.{ProposeFacts}
use Rattle.deals.specs.declared.proposing.ProposeFacts.{ProposeFacts as ProposeFactsHere}

-- the deal, without where it lies in memory
abbrev pub deal_in : DealView → Deal
deal_in (view.StoreFresh name bytes) = StoreFresh name bytes.now
deal_in (view.StoreSwap name slots bytes) = StoreSwap name slots bytes.now
deal_in (view.Cancel name slots) = Cancel name slots
deal_in (view.PutBack name claims) = PutBack name claims
deal_in (view.Replace slot bytes) = Replace slot bytes.now

-- the answer to an own deal
abbrev pub answer_in : AnswerView → Reply
answer_in (answer.Accepts claims) = Accepts claims
answer_in (answer.Refuses why detail) = Refuses why detail

-- what was looked up before a proposal
abbrev pub propose_facts_in : ProposeFactsHere → ProposeFacts
propose_facts_in f = record { issued = f.issued; capacity = f.capacity; forward = f.forward }

-- what was looked up
abbrev pub facts_in : FactsHere → Facts
facts_in f = record { name_fits = f.name_fits; clash = f.clash; new_body = f.new_body; home = f.home; issued = f.issued; capacity = f.capacity }
