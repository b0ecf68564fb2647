-- Entries one after the other: what is read of them, and where reading stops.
use Rattle.std.proofs.Common.{◌≡◌, ℕ, zero, suc, ◌+◌, ◌-◌, ◌*◌, ◌<◌, ◌≤◌, true, ◌⊎◌, List, [], ◌∷◌, ◌++◌, length, take, drop, Some, None, Ok, Err, Option, Result, sym, refl, ap, ◌∙◌, subst, ap₂, inl, inr, ⊎_elim, append_assoc, append-nil, arith, length-drop, take-add}
use Rattle.std.specs.List.{flat_map}
use Rattle.std.proofs.ByRecursion.{All-take, All-drop}
use Rattle.std.proofs.lemmas.List.{length_push, length-take-le, nil_from_length, take-append-drop, take_at, drop_at}
use Rattle.sheet_format.specs.Orders.{BodyOrder}
use Rattle.sheet_format.specs.Sizes.{block_length}
use Rattle.sheet_format.specs.declared.CipherKind.{CipherKind}
use Rattle.sheet_laws.proofs.Clash.{clash}
use Rattle.sheet_laws.proofs.Forms.{bind-some, given-some, some_same}
use Rattle.contents_format.specs.Layout.{entry_of}
use Rattle.contents_format.specs.Reading.{entry_read, may_follow, next_body, go_on, bodies_from}
use Rattle.contents_format.specs.declared.ContentsFault.{ContentsFault}
use Rattle.contents_format.specs.declared.ContentsFault.TheVariants.{Entry}
use Rattle.contents_laws.proofs.Digits.{Bytes}
use Rattle.contents_laws.proofs.Entries.{entry_found, length-entry, entry-made}
use Rattle.contents_laws.proofs.Sound.{Fit, Sound, Next, sound-push, next_of, next-decides}

cases-option : {A : Type 0} (o : Option A) → (o ≡ None) ⊎ ((x : A) × (o ≡ Some x))
cases-option None = inl refl
cases-option (Some x) = inr (x, refl)

-- equal fronts of equal lengths
same_parts : (a b c d : List ℕ) → length a ≡ length c → a ++ b ≡ c ++ d → (a ≡ c) × (b ≡ d)
same_parts a b c d n e = (
  sym (take_at a b (length c) n) ∙ ap (take (length c)) e ∙ take_at c d (length c) refl,
  sym (drop_at a b (length c) n) ∙ ap (drop (length c)) e ∙ drop_at c d (length c) refl,
)

module _ (c : CipherKind) where
  abbrev n : ℕ
  n = block_length c

  next-found : (earlier : List BodyOrder) (e : List ℕ) (b : BodyOrder) → length e ≡ 56 → Bytes e → next_body n earlier e ≡ Some b
      → (e ≡ entry_of b) × Fit n b × Next n earlier b
  next-found earlier e b long bytes h =
      let r = bind-some (entry_read n e) _ b h in
      let g = given-some (may_follow n earlier r.0) (Some r.0) b r.2 in
      let same : r.0 ≡ b = some_same g.1 in
      let read : entry_read n e ≡ Some b = r.1 ∙ ap (λ (x : BodyOrder). Some x) same in
      let found = entry_found c e b long bytes read in
      (found.0, found.1, (next-decides n earlier b).0 (subst (λ (x : BodyOrder). may_follow n earlier x ≡ true) same g.0))

  next-made : (earlier : List BodyOrder) (b : BodyOrder) → Fit n b → Next n earlier b → next_body n earlier (entry_of b) ≡ Some b
  next-made earlier b f next = rw (entry-made c b f, (next-decides n earlier b).1 next)

  -- the bodies whose entries come next are read, if they are sound behind the earlier ones
  pub bodies-made : (earlier later : List BodyOrder) → Sound n (earlier ++ later)
      → bodies_from n earlier (length later) (flat_map entry_of later) ≡ Ok (earlier ++ later)
  bodies-made earlier [] s = ap Ok (sym (append-nil earlier))
  bodies-made earlier (b ∷ later) s =
      let f = next_of n earlier b later s in
      let long = length-entry c b f.0 in
      let assoc = append_assoc earlier (b ∷ []) later in
      let r = bodies-made (earlier ++ b ∷ []) later (rw assoc s) in
      rw (take_at (entry_of b) (flat_map entry_of later) 56 long, drop_at (entry_of b) (flat_map entry_of later) 56 long, next-made earlier b f.0 f.1) (r ∙ ap Ok assoc)

  -- what was read of k entries
  pub record Walked (earlier : List BodyOrder) (k : ℕ) (xs : List ℕ) (bs : List BodyOrder) : Type 0 where
    pub later : List BodyOrder
    pub are : bs ≡ earlier ++ later
    pub entries : xs ≡ flat_map entry_of later
    pub many : length later ≡ k
    pub sound : Sound n bs

  ok-on : {A : Type 0} (fault : ContentsFault) (o : Option BodyOrder) (f : BodyOrder → Result A ContentsFault) (x : A) → go_on fault o f ≡ Ok x
      → (b : BodyOrder) × (o ≡ Some b) × (f b ≡ Ok x)
  ok-on fault None f x e = clash (cc)
  ok-on fault (Some b) f x e = (b, refl, e)

  pub walked : (earlier : List BodyOrder) (k : ℕ) (xs : List ℕ) (bs : List BodyOrder) → length xs ≡ 56 * k → Bytes xs → Sound n earlier
      → length earlier + k ≤ 32 → bodies_from n earlier k xs ≡ Ok bs → Walked earlier k xs bs
  walked earlier zero xs bs long bytes s room e =
      let same : earlier ≡ bs = cc in
      record {
        later = [];
        are = sym same ∙ sym (append-nil earlier);
        entries = nil_from_length xs (omega arith);
        many = refl;
        sound = subst (Sound n) same s;
      }
  walked earlier (suc k) xs bs long bytes s room e =
      let o = ok-on (Entry (length earlier + 1)) (next_body n earlier (take 56 xs)) (λ b. bodies_from n (earlier ++ b ∷ []) k (drop 56 xs)) bs e in
      let b = o.0 in
      let front : length (take 56 xs) ≡ 56 = length-take-le 56 xs (omega arith) in
      let rest : length (drop 56 xs) ≡ 56 * k = length-drop 56 xs ∙ (let h : length xs - 56 ≡ 56 * k = omega arith in h) in
      let f = next-found earlier (take 56 xs) b front (All-take (λ x. x < 256) 56 xs bytes) o.1 in
      let pushed = length_push earlier b in
      let r = walked (earlier ++ b ∷ []) k (drop 56 xs) bs rest (All-drop (λ x. x < 256) 56 xs bytes)
      (sound-push n earlier b (omega arith) s f.1 f.2) (omega arith) o.2 in
      record {
        later = b ∷ r.later;
        are = r.are ∙ append_assoc earlier (b ∷ []) r.later;
        entries = sym (take-append-drop 56 xs) ∙ ap₂ (λ (u v : List ℕ). u ++ v) f.0 r.entries;
        many = ap suc r.many;
        sound = r.sound;
      }

  -- where reading stopped: behind the bodies that were read, and no sound bodies have one entry more
  pub record Stopped (earlier : List BodyOrder) (k : ℕ) (xs : List ℕ) (fault : ContentsFault) : Type 0 where
    pub read : List BodyOrder
    pub place : fault ≡ Entry (length earlier + length read + 1)
    pub left : length read < k
    pub front : take (56 * length read) xs ≡ flat_map entry_of read
    pub sound : Sound n (earlier ++ read)
    pub wrong : (more : List BodyOrder) → length more ≡ length read + 1 → take (56 * (length read + 1)) xs ≡ flat_map entry_of more
        → Sound n (earlier ++ more) → ⊥

  err-on : {A : Type 0} (fault : ContentsFault) (o : Option BodyOrder) (f : BodyOrder → Result A ContentsFault) (g : ContentsFault)
      → go_on fault o f ≡ Err g → ((o ≡ None) × (fault ≡ g)) ⊎ ((b : BodyOrder) × (o ≡ Some b) × (f b ≡ Err g))
  err-on fault None f g e = inl (refl, cc)
  err-on fault (Some b) f g e = inr (b, refl, e)

  -- the first of more entries than none
  first_entry : (earlier : List BodyOrder) (b : BodyOrder) (later : List BodyOrder) (xs rest : List ℕ) → length xs ≡ 56
      → xs ++ rest ≡ flat_map entry_of (b ∷ later) → Sound n (earlier ++ b ∷ later)
      → (next_body n earlier xs ≡ Some b) × (rest ≡ flat_map entry_of later)
  first_entry earlier b later xs rest long e s =
      let f = next_of n earlier b later s in
      let p = same_parts xs rest (entry_of b) (flat_map entry_of later) (long ∙ sym (length-entry c b f.0)) e in
      (ap (next_body n earlier) p.0 ∙ next-made earlier b f.0 f.1, p.1)

  none-next : (earlier : List BodyOrder) (xs : List ℕ) → length xs ≡ 56 → next_body n earlier xs ≡ None
      → (more : List BodyOrder) → length more ≡ 1 → xs ≡ flat_map entry_of more → Sound n (earlier ++ more) → ⊥
  none-next earlier xs long none [] k e s = omega arith
  none-next earlier xs long none (b ∷ []) k e s =
      let p = first_entry earlier b [] xs [] long (append-nil xs ∙ e) s in
      let z : None ≡ Some b = sym none ∙ p.0 in
      clash (cc)
  none-next earlier xs long none (b ∷ d ∷ more) k e s = omega arith

  later-wrong : (earlier : List BodyOrder) (b : BodyOrder) (i : ℕ) (xs : List ℕ) → 56 ≤ length xs → next_body n earlier (take 56 xs) ≡ Some b
      → ((more : List BodyOrder) → length more ≡ i + 1 → take (56 * (i + 1)) (drop 56 xs) ≡ flat_map entry_of more → Sound n ((earlier ++ b ∷ []) ++ more) → ⊥)
      → (more : List BodyOrder) → length more ≡ suc i + 1 → take (56 * (suc i + 1)) xs ≡ flat_map entry_of more → Sound n (earlier ++ more) → ⊥
  later-wrong earlier b i xs long next wrong [] k e s = omega arith
  later-wrong earlier b i xs long next wrong (d ∷ more) k e s =
      let sum : 56 * (suc i + 1) ≡ 56 + 56 * (i + 1) = omega arith in
      let cut : take (56 * (suc i + 1)) xs ≡ take 56 xs ++ take (56 * (i + 1)) (drop 56 xs) =
      ap (λ (m : ℕ). take m xs) sum ∙ take-add 56 (56 * (i + 1)) xs in
      let p = first_entry earlier d more (take 56 xs) (take (56 * (i + 1)) (drop 56 xs)) (length-take-le 56 xs long) (sym cut ∙ e) s in
      let same : d ≡ b = some_same (sym p.0 ∙ next) in
      let s₁ : Sound n ((earlier ++ b ∷ []) ++ more) =
      subst (λ (bs : List BodyOrder). Sound n bs) (sym (append_assoc earlier (b ∷ []) more ∙ ap (λ (x : BodyOrder). earlier ++ x ∷ more) (sym same))) s in
      wrong more (omega arith) p.1 s₁

  pub stopped : (earlier : List BodyOrder) (k : ℕ) (xs : List ℕ) (fault : ContentsFault) → length xs ≡ 56 * k → Bytes xs → Sound n earlier
      → length earlier + k ≤ 32 → bodies_from n earlier k xs ≡ Err fault → Stopped earlier k xs fault
  stopped earlier zero xs fault long bytes s room e = clash (cc)
  stopped earlier (suc k) xs fault long bytes s room e =
      let enough : 56 ≤ length xs = omega arith in
      let front : length (take 56 xs) ≡ 56 = length-take-le 56 xs enough in
      let rest : length (drop 56 xs) ≡ 56 * k = length-drop 56 xs ∙ (let h : length xs - 56 ≡ 56 * k = omega arith in h) in
      ⊎_elim
      (λ (p : (next_body n earlier (take 56 xs) ≡ None) × (Entry (length earlier + 1) ≡ fault)).
      let sum : length earlier + 1 ≡ length earlier + 0 + 1 = omega arith in
      let r : Stopped earlier (suc k) xs fault = record {
        read = [];
        place = sym p.1 ∙ ap (λ (i : ℕ). Entry i) sum;
        left = omega arith;
        front = refl;
        sound = rw (append-nil earlier) s;
        wrong = none-next earlier (take 56 xs) front p.0;
      } in
      r)
      (λ (p : (b : BodyOrder) × (next_body n earlier (take 56 xs) ≡ Some b) × (bodies_from n (earlier ++ b ∷ []) k (drop 56 xs) ≡ Err fault)).
      let b = p.0 in
      let f = next-found earlier (take 56 xs) b front (All-take (λ x. x < 256) 56 xs bytes) p.1 in
      let pushed = length_push earlier b in
      let q = stopped (earlier ++ b ∷ []) k (drop 56 xs) fault rest (All-drop (λ x. x < 256) 56 xs bytes)
      (sound-push n earlier b (omega arith) s f.1 f.2) (omega arith) p.2 in
      let sum : length (earlier ++ b ∷ []) + length q.read + 1 ≡ length earlier + suc (length q.read) + 1 = omega arith in
      let times : 56 * suc (length q.read) ≡ 56 + 56 * length q.read = omega arith in
      let less : length q.read < k = q.left in
      let r : Stopped earlier (suc k) xs fault = record {
        read = b ∷ q.read;
        place = q.place ∙ ap (λ (i : ℕ). Entry i) sum;
        left = omega arith;
        front = ap (λ (m : ℕ). take m xs) times ∙ take-add 56 (56 * length q.read) xs ∙ ap₂ (λ (u v : List ℕ). u ++ v) f.0 q.front;
        sound = rw (append_assoc earlier (b ∷ []) q.read) at q.sound;
        wrong = later-wrong earlier b (length q.read) xs enough p.1 q.wrong;
      } in
      r)
      (err-on (Entry (length earlier + 1)) (next_body n earlier (take 56 xs)) (λ b. bodies_from n (earlier ++ b ∷ []) k (drop 56 xs)) fault e)
