-- The worked histories, from what their settings text says.
use Rattle.std.proofs.Common.{◌≡◌, ℕ, Bool, true, not, ◌&&◌, List, [], ◌∷◌, ◌++◌, map, filter, Some, length, refl, ◌∙◌, arith}
use Rattle.std.specs.Prelude.{nat_lt}
use Rattle.std.proofs.Math.Nat.{mod-one}
use Rattle.std.specs.List.{list_all}
use Rattle.psb_bytes.specs.declared.ids.Object.TheVariants.{Chunk, Slot}
use Rattle.psb_bytes.specs.declared.ids.Object.{Object}
use Rattle.psb_model.specs.declared.entries.InEntry.{InEntry}
use Rattle.psb_model.specs.declared.change.Change.TheVariants.{Discarded}
use Rattle.psb_model.specs.declared.entries.OutState.TheVariants as on
use Rattle.psb_model.specs.declared.entries.InState.TheVariants as at
use Rattle.psb_settings.specs.Settings.{settings_of}
use Rattle.psb_digest.specs.Hashes.{sha}
use Rattle.psb_digest.specs.Words.{own_word}
use Rattle.psb_model.specs.Grammar.{is_u8, is_digest, in_grammar}
use Rattle.psb_model.specs.Conditions.{allowed, same_objects}
use Rattle.psb_model.specs.Discards.{one_in, picks, seed}
use Rattle.psb_model.specs.State.{State, row, nothing_yet, is_peer, in_key, debt_units, tied_in}
use Rattle.psb_model.specs.History.{state, is_lawful, lawful_from}
use Rattle.psb_model.proofs.Prefixes.{lawful_app, lawful_snoc}
use Rattle.model_laws.specs.Worked.{one_peer, two_peers, first_deals, shared_deals, name_of, returned, come_home, six_failures, first_discard, discarded_once, seventh_failure, second_discard, discarded_twice, Numbers, LettingGoWorked, DiscardsWorked, FirstWorked, SharedWorked, Worked, ProbesWorked, ClaimsWorked, WorkedRows}
use Rattle.model_laws.proofs.Bodies.{all_right}
use Rattle.psb_model.proofs.Own.{name_refl}

first_worked : (text chunk : List ℕ) → settings_of text ≡ Some one_peer → list_all is_u8 text ≡ true → length chunk ≡ 512 → list_all is_u8 chunk ≡ true → is_digest (sha chunk) ≡ true → FirstWorked text chunk
first_worked text chunk says text_fits long chunk_fits name_fits =
    let lawful : is_lawful (first_deals text chunk) ≡ true = rw (says, long) refl in
    record {
      valid = record {
        lawful = lawful;
        fit = rw (text_fits, chunk_fits, name_fits) (refl {a = true});
        some = omega arith;
        sound = all_right (state (first_deals text chunk)) (first_deals text chunk) (rw long refl) (rw (name_refl (sha chunk)) refl);
      };
      numbers = record { held_is = rw says refl; back_is = rw says refl; debt_is = rw says refl };
    }

shared_worked : (text chunk : List ℕ) → settings_of text ≡ Some two_peers → list_all is_u8 text ≡ true → length chunk ≡ 512 → list_all is_u8 chunk ≡ true → is_digest (sha chunk) ≡ true → SharedWorked text chunk
shared_worked text chunk says text_fits long chunk_fits name_fits =
    let same = name_refl (sha chunk) in
    let lawful : is_lawful (shared_deals text chunk) ≡ true = rw (says, long, same) refl in
    record {
      valid = record {
        lawful = lawful;
        fit = rw (text_fits, chunk_fits, name_fits) (refl {a = true});
        some = omega arith;
        sound = all_right (state (shared_deals text chunk)) (shared_deals text chunk) (rw long refl) (rw same refl);
      };
      first_numbers = record { held_is = rw says refl; back_is = rw says refl; debt_is = rw says refl };
      second_numbers = record { held_is = rw says refl; back_is = rw says refl; debt_is = rw says refl };
    }

worked_two : (text : List ℕ) → settings_of text ≡ Some two_peers → Worked text
worked_two text h = record {
  lost_lawful = rw h refl;
  lost_numbers = record { held_is = rw h refl; back_is = rw h refl; debt_is = rw h refl };
  shown_lawful = rw h refl;
  shown_numbers = record { held_is = rw h refl; back_is = rw h refl; debt_is = rw h refl };
  forwarded_lawful = rw h refl;
  forwarded_two = record { held_is = rw h refl; back_is = rw h refl; debt_is = rw h refl };
  forwarded_three = record { held_is = rw h refl; back_is = rw h refl; debt_is = rw h refl };
  carries = rw h refl;
  swapped_lawful = rw h refl;
  loose = rw h refl;
  swapped_numbers = record { held_is = rw h refl; back_is = rw h refl; debt_is = rw h refl };
}

probes_worked : (text : List ℕ) → settings_of text ≡ Some one_peer → ProbesWorked text
probes_worked text h = record {
  passed_lawful = rw h refl;
  passed_numbers = record { held_is = rw h refl; back_is = rw h refl; debt_is = rw h refl };
  no_failures = rw h refl;
  declined_lawful = rw h refl;
  declined_numbers = record { held_is = rw h refl; back_is = rw h refl; debt_is = rw h refl };
  one_failure = rw h refl;
  lost = rw h refl;
}

returned_lawful : (text : List ℕ) → settings_of text ≡ Some two_peers → is_lawful (returned text) ≡ true
returned_lawful text h = rw h (refl {a = true})

returned_outs : (text : List ℕ) → settings_of text ≡ Some two_peers → (row (state (returned text)) 2).outs ≡ record { object = Slot 0; units = 1; state = on.Own } ∷ []
returned_outs text h = rw h (refl {a = record { object = Slot 0; units = 1; state = on.Own } ∷ []})

returned_numbers : (text : List ℕ) → settings_of text ≡ Some two_peers → Numbers (returned text) 2 1 1 0
returned_numbers text h = record { held_is = rw h (refl {a = 1}); back_is = rw h (refl {a = 1}); debt_is = rw h (refl {a = 0}) }

home_lawful : (text : List ℕ) → settings_of text ≡ Some two_peers → is_lawful (come_home text) ≡ true
home_lawful text h = rw h (refl {a = true})

home_ins : (text : List ℕ) → settings_of text ≡ Some two_peers → (row (state (come_home text)) 3).ins ≡ record { object = Slot 5; units = 1; state = at.Home 0 } ∷ []
home_ins text h = rw h (refl {a = record { object = Slot 5; units = 1; state = at.Home 0 } ∷ []})

home_outs : (text : List ℕ) → settings_of text ≡ Some two_peers → (row (state (come_home text)) 2).outs ≡ record { object = Slot 0; units = 1; state = on.Loose } ∷ []
home_outs text h = rw h (refl {a = record { object = Slot 0; units = 1; state = on.Loose } ∷ []})

home_numbers : (text : List ℕ) → settings_of text ≡ Some two_peers → Numbers (come_home text) 3 1 1 0
home_numbers text h = record { held_is = rw h (refl {a = 1}); back_is = rw h (refl {a = 1}); debt_is = rw h (refl {a = 0}) }

claims_worked : (text : List ℕ) → settings_of text ≡ Some two_peers → ClaimsWorked text
claims_worked text h = record {
  returned_lawful = returned_lawful text h;
  own_again = returned_outs text h;
  returned_numbers = returned_numbers text h;
  home_lawful = home_lawful text h;
  at_home = home_ins text h;
  freed = home_outs text h;
  home_numbers = home_numbers text h;
}

letting_go_worked : (text : List ℕ) → settings_of text ≡ Some one_peer → LettingGoWorked text
letting_go_worked text h = record {
  lawful = rw h (refl {a = true});
  put_back = rw h (refl {a = record { object = Slot 3; units = 1; state = at.Direct } ∷ []});
  numbers = record { held_is = rw h (refl {a = 1}); back_is = rw h (refl {a = 1}); debt_is = rw h (refl {a = 0}) };
  given_up = rw h (refl {a = []});
}

failures_lawful : (text : List ℕ) → settings_of text ≡ Some two_peers → is_lawful (six_failures text) ≡ true
failures_lawful text h = rw h (refl {a = true})

-- all that is untied is picked, where one in one is and the debt is enough
discard_fits : (s : State) (objects : List Object) (debt : ℕ) (untied : List InEntry) → is_peer s 3 ≡ true → nat_lt 0 s.changes ≡ true
    → (row s 3).due ≡ true → one_in (row s 3).fails ≡ 1 → debt_units (row s 3) ≡ debt → filter (λ (e : InEntry). not (tied_in s 3 e.object)) (row s 3).ins ≡ untied
    → ((w : ℕ → ℕ) → same_objects objects (map in_key (picks w 1 0 debt 1048576 untied)) ≡ true)
    → allowed s (Discarded (record { peer = 3; objects = objects })) ≡ true
discard_fits s objects debt untied peer begun due every units are picked =
    rw (peer, begun, due, every, units, are, picked (own_word (seed s.settings) s.changes)) refl

abbrev first_entries : List InEntry
first_entries = record { object = Chunk (name_of 10); units = 1; state = at.Body } ∷ record { object = Slot 6; units = 1; state = at.Direct } ∷ []

abbrev second_entries : List InEntry
second_entries = record { object = Slot 5; units = 1; state = at.Direct } ∷ []

first_allowed : (text : List ℕ) → settings_of text ≡ Some two_peers → (in_grammar first_discard && allowed (state (six_failures text)) first_discard) ≡ true
first_allowed text h = discard_fits (state (six_failures text)) (Chunk (name_of 10) ∷ Slot 6 ∷ []) 3 first_entries
    (rw h (refl {a = true})) refl (rw h (refl {a = true})) (rw h (refl {a = 1})) (rw h (refl {a = 3})) (rw h (refl {a = first_entries}))
    (λ w. rw (mod-one (w 0), mod-one (w 1)) refl)

between_lawful : (text : List ℕ) → settings_of text ≡ Some two_peers → lawful_from (state (discarded_once text)) seventh_failure ≡ true
between_lawful text h = rw h (refl {a = true})

second_allowed : (text : List ℕ) → settings_of text ≡ Some two_peers → (in_grammar second_discard && allowed (state (discarded_once text ++ seventh_failure)) second_discard) ≡ true
second_allowed text h = discard_fits (state (discarded_once text ++ seventh_failure)) (Slot 5 ∷ []) 1 second_entries
    (rw h (refl {a = true})) refl (rw h (refl {a = true})) (rw h (refl {a = 1})) (rw h (refl {a = 1})) (rw h (refl {a = second_entries}))
    (λ w. rw (mod-one (w 0)) refl)

both : (a b : Bool) → a ≡ true → b ≡ true → (a && b) ≡ true
both a b x y = rw (x, y) refl

discards_lawful : (text : List ℕ) → settings_of text ≡ Some two_peers → is_lawful (discarded_twice text) ≡ true
discards_lawful text h =
    let once : is_lawful (discarded_once text) ≡ true = lawful_snoc (six_failures text) first_discard ∙ both _ _ (failures_lawful text h) (first_allowed text h) in
    let then : is_lawful (discarded_once text ++ seventh_failure) ≡ true = lawful_app nothing_yet (discarded_once text) seventh_failure ∙ both _ _ once (between_lawful text h) in
    lawful_snoc (discarded_once text ++ seventh_failure) second_discard ∙ both _ _ then (second_allowed text h)

discards_worked : (text : List ℕ) → settings_of text ≡ Some two_peers → DiscardsWorked text
discards_worked text h = record {
  lawful = discards_lawful text h;
  failed_numbers = record { held_is = rw h (refl {a = 3}); back_is = rw h (refl {a = 0}); debt_is = rw h (refl {a = 3}) };
  once_numbers = record { held_is = rw h (refl {a = 1}); back_is = rw h (refl {a = 0}); debt_is = rw h (refl {a = 1}) };
  twice_numbers = record { held_is = rw h (refl {a = 0}); back_is = rw h (refl {a = 0}); debt_is = rw h (refl {a = 0}) };
}

pub worked : WorkedRows
worked = record { first = first_worked; shared = shared_worked; two = worked_two; probes = probes_worked; claims = claims_worked; letting_go = letting_go_worked; discards = discards_worked }
