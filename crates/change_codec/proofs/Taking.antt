-- Fields that were read in turn: what stood in front of the bytes that are left.
use Rattle.std.proofs.Common.{◌≡◌, ℕ, Bool, true, false, cond, List, [], ◌∷◌, ◌++◌, Option, Some, refl, ap, sym, ◌∙◌, append_assoc, append-nil}
use Rattle.psb_bytes.specs.Numbers.{AreBytes}
use Rattle.byte_fields.specs.Fields.{◌>>=◌, ended}
use Rattle.byte_fields.proofs.Found.{bind_some, some_is}
use Rattle.byte_fields.proofs.FieldLaws.{IsField}

-- a field was read behind the front, and what follows gave the answer
pub record Took {A C : Type 0} (spell : A → List ℕ) (fit : A → Bool) (more : A × List ℕ → Option C) (fields front : List ℕ) (c : C) : Type 0 where
  pub value : A
  pub rest : List ℕ
  pub whole : fields ≡ front ++ spell value ++ rest
  pub fits : fit value ≡ true
  pub ok : AreBytes rest
  pub gives : more (value, rest) ≡ Some c

pub took : {A C : Type 0} {spell : A → List ℕ} {fit : A → Bool} {read : List ℕ → Option (A × List ℕ)} {more : A × List ℕ → Option C} → IsField spell fit read → (fields front bytes : List ℕ) (c : C) → fields ≡ front ++ bytes → AreBytes bytes → (read bytes >>= more) ≡ Some c → Took spell fit more fields front c
took {spell = spell} {read = read} {more = more} h fields front bytes c whole ok e =
    let b = bind_some (read bytes) more c e in
    let t = h.takes bytes b.0.0 b.0.1 ok b.1 in
    record {
      value = b.0.0;
      rest = b.0.1;
      whole = whole ∙ ap (λ (l : List ℕ). front ++ l) t.0 ∙ sym (append_assoc front (spell b.0.0) b.0.1);
      fits = t.1;
      ok = t.2;
      gives = b.2;
    }

-- the last of them
pub took_all : {C : Type 0} (value c : C) (fields front rest : List ℕ) → fields ≡ front ++ rest → ended value rest ≡ Some c → (fields ≡ front) × (value ≡ c)
took_all value c fields front [] whole e = (whole ∙ append-nil front, some_is value c e)
took_all value c fields front (b ∷ rest) whole e = absurd cc

-- a field that is spelled in front is read; so is one that ends the bytes
pub gave : {A C : Type 0} {spell : A → List ℕ} {fit : A → Bool} {read : List ℕ → Option (A × List ℕ)} → IsField spell fit read → (more : A × List ℕ → Option C) (x : A) (rest : List ℕ) → fit x ≡ true → (read (spell x ++ rest) >>= more) ≡ more (x, rest)
gave h more x rest e = ap (λ (r : Option _). r >>= more) (h.again x rest e)

pub gave_last : {A C : Type 0} {spell : A → List ℕ} {fit : A → Bool} {read : List ℕ → Option (A × List ℕ)} → IsField spell fit read → (more : A × List ℕ → Option C) (x : A) → fit x ≡ true → (read (spell x) >>= more) ≡ more (x, [])
gave_last {spell = spell} {read = read} h more x e = ap (λ (l : List ℕ). read l >>= more) (sym (append-nil (spell x))) ∙ gave h more x [] e

-- parts, from the first on
pub parts_3 : (a b c : List ℕ) → a ++ b ++ c ≡ a ++ (b ++ c)
parts_3 a b c = append_assoc a b c

pub parts_4 : (a b c d : List ℕ) → a ++ b ++ c ++ d ≡ a ++ (b ++ (c ++ d))
parts_4 a b c d = parts_3 (a ++ b) c d ∙ append_assoc a b (c ++ d)

pub parts_5 : (a b c d e : List ℕ) → a ++ b ++ c ++ d ++ e ≡ a ++ (b ++ (c ++ (d ++ e)))
parts_5 a b c d e = parts_4 (a ++ b) c d e ∙ append_assoc a b (c ++ (d ++ e))

pub parts_6 : (a b c d e f : List ℕ) → a ++ b ++ c ++ d ++ e ++ f ≡ a ++ (b ++ (c ++ (d ++ (e ++ f))))
parts_6 a b c d e f = parts_5 (a ++ b) c d e f ∙ append_assoc a b (c ++ (d ++ (e ++ f)))

pub parts_7 : (a b c d e f g : List ℕ) → a ++ b ++ c ++ d ++ e ++ f ++ g ≡ a ++ (b ++ (c ++ (d ++ (e ++ (f ++ g)))))
parts_7 a b c d e f g = parts_6 (a ++ b) c d e f g ∙ append_assoc a b (c ++ (d ++ (e ++ (f ++ g))))

-- either branch of a choice
pub chosen : {A P : Type 0} (b : Bool) (x y : Option A) (a : A) → (b ≡ true → x ≡ Some a → P) → (b ≡ false → y ≡ Some a → P) → cond b x y ≡ Some a → P
chosen true x y a h k e = h refl e
chosen false x y a h k e = k refl e
