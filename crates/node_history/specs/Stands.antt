-- What an image of a disk stands for.
use Rattle.std.specs.Prelude.{◌≡◌, ℕ, ◌+◌, true, List, [], ◌∷◌, Some, is_some}
use Rattle.node_journal.specs.Entry.{Entry}
use Rattle.psb_model.specs.State.{State}
use Rattle.psb_model.specs.Heads.{head_of, body_of}
use Rattle.psb_model.specs.History.{state, held, back, debt, IsExplained}
use Rattle.psb_model.specs.Needed.{is_needed_by, IsValid}
use Rattle.psb_model.specs.declared.change.Change.{Change}
use Rattle.change_codec.specs.Records.{IsRecord}
use Rattle.node_history.specs.Less.{IsLess}

-- the record has the change's head, and where its body is there, that is the change's
pub record IsRecordOf (c : Change) (e : Entry) : Type 0 where
  pub head : e.head ≡ head_of c
  pub body : (bytes : List ℕ) → e.body ≡ Some bytes → body_of c ≡ Some bytes

-- There are as many records as changes, each its change's, and each body that is needed is there.
-- The state is that of the whole history.
abbrev pub AreRecordsOf : State → List Change → List Entry → Type 0
AreRecordsOf s [] [] = Unit {0}
AreRecordsOf s [] (e ∷ es) = ⊥
AreRecordsOf s (c ∷ cs) [] = ⊥
AreRecordsOf s (c ∷ cs) (e ∷ es) = IsRecordOf c e × (is_needed_by s c cs ≡ true → is_some e.body ≡ true) × AreRecordsOf s cs es

-- the image stands for the history
abbrev pub StandsFor : (List Entry → List ℕ → Type 0) → List Change → List ℕ → Type 0
StandsFor stands h image = (es : List Entry) × AreRecordsOf (state h) h es × stands es image

-- the records decode to these changes: a change whose body was given up has none
abbrev pub AreDecoded : List Change → List Entry → Type 0
AreDecoded [] [] = Unit {0}
AreDecoded [] (e ∷ es) = ⊥
AreDecoded (c ∷ cs) [] = ⊥
AreDecoded (c ∷ cs) (e ∷ es) = IsRecord c e.head e.body × AreDecoded cs es

-- the image holds this history
pub record HoldsHistory (stands : List Entry → List ℕ → Type 0) (h : List Change) (image : List ℕ) : Type 0 where
  pub records : List Entry
  pub decoded : AreDecoded h records
  pub image_is : stands records image

-- An image that a node reopens from: it stands for the history, which is valid, and for each peer what
-- the node owes it is what it is owed back plus debt, and each row of debt is explained. It also holds
-- the history, less bodies that were given up, with those that are needed: so what is said of a node with
-- this history is said of the image.
pub record ReopensTo (stands : List Entry → List ℕ → Type 0) (h : List Change) (image : List ℕ) : Type 0 where
  pub image_is : StandsFor stands h image
  pub less : List Change
  pub is_less : IsLess h less
  pub holds : HoldsHistory stands less image
  pub valid : IsValid less
  pub history_valid : IsValid h
  pub balances : (p : ℕ) → held h p ≡ back h p + debt h p
  pub explained : (p : ℕ) → IsExplained h p
