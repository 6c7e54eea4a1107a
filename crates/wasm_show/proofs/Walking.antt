-- What a walker has seen, call by call, and of the items that an iterator gives.
use Rattle.std.proofs.Common.{◌≡◌, Bool, true, false, List, [], ◌∷◌, ◌++◌, Option, Some, None, Result, Ok, Err, refl, sym, ap, subst}
use Rattle.std.proofs.Common.{◌∙◌, append_assoc, append-nil, inl, inr, ◌⊎◌}
use Rattle.std.specs.Option.{is_some}
use Rattle.wasm_base.specs.FaultAt.{fault_at}
use Rattle.wasm_base.specs.Hints.{is_out_of_memory}
use Rattle.wasm_base.specs.declared.error.Error.{Error}
use Rattle.wasm_io.specs.declared.devices.ListError.{ListError}
use Rattle.wasm_show.specs.Lists.{AfterItem, Found, SeesFound}
use Rattle.wasm_show.specs.Seen.{Seen, faulty}
use Rattle.wasm_show.specs.Walk.{HasSeen, Sees, Takes, TakesFault}

pub not_both : (why : Option ListError) → is_some why ≡ true → why ≡ None → ⊥
not_both None is e = absurd (let no : false ≡ true = is in cc)
not_both (Some why) is e = absurd (let no : Some why ≡ None = e in cc)

module _ {W : Type 0} (saw : W → List Seen → W → Type 0) (why : W → Option ListError) where
  abbrev See : List Seen → (old new : W) → Type 0
  See seen old new = Sees saw why seen old new

  pub sees_nothing : (x : W) → See [] x x
  sees_nothing x since all h = subst (λ (l : List Seen). HasSeen saw why since l x) (sym (append-nil all)) h

  pub sees_then : (a b : List Seen) (x y z : W) → See a x y → See b y z → See (a ++ b) x z
  sees_then a b x y z f g since all h =
      subst (λ (l : List Seen). HasSeen saw why since l z) (append_assoc all a b) (g since (all ++ a) (f since all h))

  pub sees_same : (a b : List Seen) (x y : W) → a ≡ b → See a x y → See b x y
  sees_same a b x y e f = subst (λ (l : List Seen). See l x y) e f

  -- one that has stopped need not see more
  pub sees_wider : (a b : List Seen) (x y : W) → is_some (why y) ≡ true → See a x y → See (a ++ b) x y
  sees_wider a b x y is f since all h =
      let k = f since all h in
      record {
        done = k.done;
        left = k.left ++ b;
        is = sym (append_assoc k.done k.left b) ∙ (ap (λ (l : List Seen). l ++ b) k.is ∙ append_assoc all a b);
        did = k.did;
        rest = λ e. absurd (not_both (why y) is e);
      }

  module _ (told : List Seen) (x y : W) (t : Takes saw why told x y) (since : W) (all : List Seen) (h : HasSeen saw why since all x) where
    by_stop : (stop : Option ListError) → why x ≡ stop → HasSeen saw why since (all ++ told) y
    by_stop None e = record {
      done = h.done ++ told;
      left = [];
      is = append-nil (h.done ++ told) ∙ ap (λ (l : List Seen). l ++ told)
          (sym (append-nil h.done) ∙ (ap (λ (l : List Seen). h.done ++ l) (sym (h.rest e)) ∙ h.is));
      did = t.goes e since h.done h.did;
      rest = λ n. refl;
    }
    by_stop (Some stop) e =
        let same : y ≡ x = t.stays (ap is_some e) in
        record {
          done = h.done;
          left = h.left ++ told;
          is = sym (append_assoc h.done h.left told) ∙ ap (λ (l : List Seen). l ++ told) h.is;
          did = subst (λ (w : W). saw since h.done w) (sym same) h.did;
          rest = λ n. absurd (not_both (why x) (ap is_some e) (ap why (sym same) ∙ n));
        }

  -- what was reported it sees
  pub sees_told : (told : List Seen) (x y : W) → Takes saw why told x y → See told x y
  sees_told told x y t since all h = by_stop told x y t since all h (why x) refl

  -- The fault in the place of an item is seen; or an allocation failed, and the walker has stopped. A fault of what is
  -- read as one, which is never out of memory, is the one that is to be seen.
  pub fault_or_stop : (all : List Seen) (e : Error) (x y : W)
      → (is_out_of_memory (fault_at e).fault ≡ true) ⊎ (all ≡ faulty (fault_at e) ∷ []) → TakesFault saw why e x y → See all x y
  fault_or_stop all e x y (inl m) f = sees_wider [] all x y (f.stops m) (sees_told [] x y (f.none m))
  fault_or_stop all e x y (inr is) f = by_memory _ refl
    where
      by_memory : (memory : Bool) → is_out_of_memory (fault_at e).fault ≡ memory → See all x y
      by_memory true m = sees_wider [] all x y (f.stops m) (sees_told [] x y (f.none m))
      by_memory false m = sees_same (faulty (fault_at e) ∷ []) all x y (sym is) (sees_told _ x y (f.one m))

  -- ---- the remaining items

  module _ {I : Type 0} (owes : I → List Seen → Type 0) where
    -- Of what was owed some is seen and the remaining items owe the others; or the walker has stopped.
    abbrev pub Remains : (items : I) → (all : List Seen) → (old new : W) → Type 0
    Remains items all old new = ((done : List Seen) × (left : List Seen) × owes items left × (done ++ left ≡ all)
        × See done old new) ⊎ ((is_some (why new) ≡ true) × See all old new)

    abbrev pub SoFar : (first items : I) (old new : W) → Type 0
    SoFar first items old new = (all : List Seen) → owes first all → Remains items all old new

    pub none_so_far : (items : I) (x : W) → SoFar items items x x
    none_so_far items x all o = inl ([], all, o, refl, sees_nothing x)

    module _ {T : Type 0} (shows : Found T → List Seen) (t : I) where
      fault_by : (e : Error) (memory : Bool) → is_out_of_memory (fault_at e).fault ≡ memory → (done left all : List Seen)
          (old mid new : W) → AfterItem owes shows left (Some (Err e)) t → TakesFault saw why e mid new → done ++ left ≡ all
          → See done old mid → Remains t all old new
      fault_by e true m done left all old mid new a f k d = inr (
        f.stops m,
        sees_same (done ++ left) all old new k
            (sees_then done left old mid new d (sees_wider [] left mid new (f.stops m) (sees_told [] mid new (f.none m)))),
      )
      fault_by e false m done left all old mid new a f k d =
          let (later, o, is) = a m in
          let one = faulty (fault_at e) ∷ [] in
          inl (
            done ++ one,
            later,
            o,
            append_assoc done one later ∙ (ap (λ (l : List Seen). done ++ l) (sym is) ∙ k),
            sees_then done one old mid new d (sees_told one mid new (f.one m)),
          )

      step_by : (s : I) (x : Result (Found T) Error) (all : List Seen) (old mid new : W) → Remains s all old mid
          → is_some (why mid) ≡ false
          → ((left : List Seen) → owes s left → AfterItem owes shows left (Some x) t) → SeesFound saw why shows x mid new
          → Remains t all old new
      step_by s x all old mid new (inr (is, d)) going n f = absurd (let no : false ≡ true = sym going ∙ is in cc)
      step_by s (Ok x) all old mid new (inl (done, left, o, k, d)) going n f =
          let (later, o', e) = n left o in
          inl (
            done ++ shows x,
            later,
            o',
            append_assoc done (shows x) later ∙ (ap (λ (l : List Seen). done ++ l) (sym e) ∙ k),
            sees_then done (shows x) old mid new d f,
          )
      step_by s (Err e) all old mid new (inl (done, left, o, k, d)) going n f =
          fault_by e _ refl done left all old mid new (n left o) f k d

    pub one_so_far : {T : Type 0} (shows : Found T → List Seen) (first s t : I) (x : Result (Found T) Error) (old mid new : W)
        → SoFar first s old mid → is_some (why mid) ≡ false → ((left : List Seen) → owes s left → AfterItem owes shows left (Some x) t)
        → SeesFound saw why shows x mid new → SoFar first t old new
    one_so_far shows first s t x old mid new a going n f all o = step_by shows t s x all old mid new (a all o) going n f

    end_by : {T : Type 0} (shows : Found T → List Seen) (s t : I) (all : List Seen) (old new : W) → Remains s all old new
        → ((left : List Seen) → owes s left → AfterItem owes shows left None t) → See all old new
    end_by shows s t all old new (inr (is, d)) n = d
    end_by shows s t all old new (inl (done, left, o, k, d)) n = sees_same done all old new
        (sym (append-nil done) ∙ (ap (λ (l : List Seen). done ++ l) (sym (n left o)) ∙ k)) d

    pub all_seen : {T : Type 0} (shows : Found T → List Seen) (first s t : I) (old new : W) → SoFar first s old new
        → ((left : List Seen) → owes s left → AfterItem owes shows left None t) → (all : List Seen) → owes first all → See all old new
    all_seen shows first s t old new a n all o = end_by shows s t all old new (a all o) n

    stop_by : (s : I) (all : List Seen) (old new : W) → Remains s all old new → is_some (why new) ≡ true → See all old new
    stop_by s all old new (inr (is, d)) st = d
    stop_by s all old new (inl (done, left, o, k, d)) st =
        sees_same (done ++ left) all old new k (sees_wider done left old new st d)

    pub all_stopped : (first s : I) (old new : W) → SoFar first s old new → is_some (why new) ≡ true → (all : List Seen)
        → owes first all → See all old new
    all_stopped first s old new a st all o = stop_by s all old new (a all o) st
