-- Names stay where an entry is appended: what gives a name belongs to an entry that was there.
use Rattle.std.proofs.Common.{◌≡◌, ℕ, Bool, true, false, ◌==◌, not, ◌&&◌, ◌||◌, if◌then◌else◌, List, [], ◌∷◌, ◌++◌, Option, None, Some, cond, refl, sym, ◌∙◌, ap, arith}
use Rattle.std.proofs.lemmas.Bool.Decides.{nat_tests}
use Rattle.std.specs.List.{list_any}
use Rattle.std.specs.Prelude.{find}
use Rattle.sg_facts.specs.sg_base.Lists.{Each, When}
use Rattle.sg_facts.specs.sg_base.declared.reply.Good.{Good}
use Rattle.sg_facts.specs.sg_base.declared.reply.Reply.{Reply}
use Rattle.sg_facts.specs.sg_base.declared.reply.Reply.TheVariants.{Ok, Refused}
use Rattle.sg_facts.specs.declared.entry.Entry.{Entry}
use Rattle.sg_facts.specs.declared.outcome.Outcome.{Outcome}
use Rattle.sg_facts.specs.declared.outcome.Patch.{Patch}
use Rattle.sg_facts.specs.declared.outcome.Outcome.TheVariants.{Replied, Blocks, Stopped, NoMemory}
use Rattle.sg_facts.specs.declared.trace.Item.{Item}
use Rattle.sg_facts.specs.declared.trace.Tag.{Tag}
use Rattle.sg_facts.specs.declared.trace.Tag.TheVariants.{Walk, Load, Client}
use Rattle.sg_facts.specs.Facts.{Facts, fun_at, is_visible}
use Rattle.sg_facts.specs.Trace.{Boot}
use Rattle.sg_hist.specs.Growing.{IsSameFor, IsSameId}
use Rattle.sg_recovery_laws.proofs.Lists.{each_append, each_push, each_split}
use Rattle.sg_hist.specs.Reading.{Position, items_after, desc_in, id_given, is_by_guard, is_made, is_item_of, is_ok, is_tagged, items_of, names_at, pair_of, places_from, places_in}
use Rattle.sg_hist.specs.Inside.Reads.{desc_of, made_by, names_in}
use Rattle.sg_hist.specs.Recovered.{is_clients, is_entered, is_replied, is_visible_reply}
use Rattle.sg_hist.specs.Inside.Parts.{IsCommitted}

-- whether an entry has the number of a client's call
abbrev pub is_numbered : ℕ → ℕ → Entry → Bool
is_numbered client seq e = (e.call.client == client) && (e.call.seq == seq)

abbrev pub HasEntry : List Entry → Tag → Type 0
HasEntry h (Client client seq) = list_any (is_numbered client seq) h ≡ true
HasEntry h (Walk id k client) = Unit {0}
HasEntry h (Load key client) = Unit {0}

-- a visible reply belongs to an entry
abbrev pub IsGiven : Facts → List Entry → Item → Type 0
IsGiven facts h x = When (is_visible_reply facts x) (HasEntry h x.tag)

any_implies : (f g : Entry → Bool) (h : List Entry) → ((e : Entry) → f e ≡ true → g e ≡ true) → list_any f h ≡ true → list_any g h ≡ true
any_implies f g [] so any = any
any_implies f g (e ∷ h) so any = by (any_implies f g h so) (f e) refl any
  where
    one : (b : Bool) → b ≡ true → b || list_any g h ≡ true
    one true is = refl
    one false is = absurd cc

    later : (b : Bool) → list_any g h ≡ true → b || list_any g h ≡ true
    later true is = refl
    later false is = is

    by : (list_any f h ≡ true → list_any g h ≡ true) → (b : Bool) → f e ≡ b → b || list_any f h ≡ true → g e || list_any g h ≡ true
    by rest true is any = one (g e) (so e is)
    by rest false is any = later (g e) (rest any)

turned : (a n : Bool) (c s x y : ℕ) → a && ((c == x) && (s == y)) && n ≡ true → (x == c) && (y == s) ≡ true
turned a n c s x y e = grind (arith, nat_tests, e)

-- what is committed is given
pub committed_given : (facts : Facts) (h : List Entry) (p : Position) → IsCommitted facts h p → IsGiven facts h p.item
committed_given facts h p committed = by (is_visible_reply facts p.item) committed
  where
    entry : (tag : Tag) → list_any (λ e. not (is_by_guard e.reply) && is_tagged e.call.client e.call.seq tag && not (list_any (is_item_of e) (items_after p))) h ≡ true → HasEntry h tag
    entry (Client client seq) any =
        any_implies (λ e. not (is_by_guard e.reply) && is_tagged e.call.client e.call.seq (Client client seq) && not (list_any (is_item_of e) (items_after p))) (is_numbered client seq) h
        (λ e. turned (not (is_by_guard e.reply)) (not (list_any (is_item_of e) (items_after p))) client seq e.call.client e.call.seq) any
    entry (Walk id k client) any = tt
    entry (Load key client) any = tt

    by : (b : Bool) → When b (is_entered h p ≡ true) → When b (HasEntry h p.item.tag)
    by true is = entry p.item.tag is
    by false is = tt

-- ---- an entry more

find_more : (test : Entry → Bool) (h : List Entry) (y : Entry) → list_any test h ≡ true → find test (h ++ y ∷ []) ≡ find test h
find_more test [] y any = absurd cc
find_more test (x ∷ h) y any = by (find_more test h y) (test x) any
  where
    by : (list_any test h ≡ true → find test (h ++ y ∷ []) ≡ find test h) → (b : Bool) → b || list_any test h ≡ true
        → cond b (Some x) (find test (h ++ y ∷ [])) ≡ cond b (Some x) (find test h)
    by rest true any = refl
    by rest false any = rest any

pub id_more : (h : List Entry) (e : Entry) (client seq : ℕ) → list_any (is_numbered client seq) h ≡ true → id_given (h ++ e ∷ []) client seq ≡ id_given h client seq
id_more h e client seq any = ap desc_in (find_more (is_numbered client seq) h e any)

-- a creation is visible
pub made_visible : (facts : Facts) (fun : ℕ) → (fun_at facts.funs fun).creation ≡ true → is_visible facts fun ≡ true
made_visible facts fun made = by facts.global (fun_at facts.funs fun).uses_file (fun_at facts.funs fun).creation made
  where
    by : (a b c : Bool) → c ≡ true → a || b || c ≡ true
    by true b c is = refl
    by false true c is = refl
    by false false c is = is

-- so it is with an entry more, if it belongs to an entry that was there
pub given_same : (facts : Facts) (h : List Entry) (e : Entry) (x : Item) → IsGiven facts h x → IsSameId facts h (h ++ e ∷ []) x
given_same facts h e x given = by x.tag x.outcome given
  where
    own : (client seq : ℕ) → (fun_at facts.funs x.shown.fun).creation ≡ true → (b : Bool) → is_visible facts x.shown.fun ≡ b
        → When (b && true) (list_any (is_numbered client seq) h ≡ true) → id_given (h ++ e ∷ []) client seq ≡ id_given h client seq
    own client seq made true is given = id_more h e client seq given
    own client seq made false is given = absurd (let e : true ≡ false = sym (made_visible facts x.shown.fun made) ∙ is in cc)

    by : (tag : Tag) (outcome : Outcome) → When (is_clients tag && is_visible facts x.shown.fun && is_replied outcome) (HasEntry h tag)
        → IsSameFor facts h (h ++ e ∷ []) x.shown.fun tag outcome
    by (Client client seq) (Replied (Ok good) patch) given = λ made. own client seq made (is_visible facts x.shown.fun) refl given
    by (Client client seq) (Replied (Refused code) patch) given = tt
    by (Client client seq) Blocks given = tt
    by (Client client seq) Stopped given = tt
    by (Client client seq) NoMemory given = tt
    by (Walk id k client) outcome given = tt
    by (Load key client) outcome given = tt

-- a refusal has no descriptor
refused_desc : (e : Entry) → is_by_guard e.reply ≡ true → desc_of e.reply ≡ 0
refused_desc e guards = by e.reply guards
  where
    by : (reply : Reply) → is_by_guard reply ≡ true → desc_of reply ≡ 0
    by (Ok good) guards = absurd cc
    by (Refused code) guards = refl

-- no id is given by a refusal
refused_id : (h : List Entry) (e : Entry) (client seq : ℕ) → desc_of e.reply ≡ 0 → id_given (h ++ e ∷ []) client seq ≡ id_given h client seq
refused_id [] e client seq none = found (is_numbered client seq e)
  where
    found : (b : Bool) → desc_in (cond b (Some e) None) ≡ 0
    found true = none
    found false = refl
refused_id (y ∷ h) e client seq none = by (refused_id h e client seq none) (is_numbered client seq y)
  where
    by : id_given (h ++ e ∷ []) client seq ≡ id_given h client seq → (b : Bool)
        → desc_in (cond b (Some y) (find (is_numbered client seq) (h ++ e ∷ []))) ≡ desc_in (cond b (Some y) (find (is_numbered client seq) h))
    by rest true = refl
    by rest false = rest

-- and so it is with a refusal by the guard
pub refused_same : (facts : Facts) (h : List Entry) (e : Entry) (x : Item) → is_by_guard e.reply ≡ true → IsSameId facts h (h ++ e ∷ []) x
refused_same facts h e x guards = by x.tag x.outcome
  where
    by : (tag : Tag) (outcome : Outcome) → IsSameFor facts h (h ++ e ∷ []) x.shown.fun tag outcome
    by (Client client seq) (Replied (Ok good) patch) = λ made. refused_id h e client seq (refused_desc e guards)
    by (Client client seq) (Replied (Refused code) patch) = tt
    by (Client client seq) Blocks = tt
    by (Client client seq) Stopped = tt
    by (Client client seq) NoMemory = tt
    by (Walk id k client) outcome = tt
    by (Load key client) outcome = tt

-- ---- names

name_same : (facts : Facts) (h h' : List Entry) (x : Item) → IsSameId facts h h' x
    → names_in facts h' x.shown.fun x.tag x.outcome ≡ names_in facts h x.shown.fun x.tag x.outcome
name_same facts h h' x same = by x.tag x.outcome same
  where
    own : (client seq : ℕ) (good : Good) (patch : Option Patch) (b : Bool) → (fun_at facts.funs x.shown.fun).creation ≡ b
        → ((fun_at facts.funs x.shown.fun).creation ≡ true → id_given h' client seq ≡ id_given h client seq)
        → (if b then pair_of (id_given h' client seq) (Replied (Ok good) patch) else [])
        ≡ (if b then pair_of (id_given h client seq) (Replied (Ok good) patch) else [])
    own client seq good patch true is same = ap (λ id. pair_of id (Replied (Ok good) patch)) (same is)
    own client seq good patch false is same = refl

    by : (tag : Tag) (outcome : Outcome) → IsSameFor facts h h' x.shown.fun tag outcome
        → names_in facts h' x.shown.fun tag outcome ≡ names_in facts h x.shown.fun tag outcome
    by (Client client seq) (Replied (Ok good) patch) same = own client seq good patch (fun_at facts.funs x.shown.fun).creation refl same
    by (Client client seq) (Replied (Refused code) patch) same = refl
    by (Client client seq) Blocks same = refl
    by (Client client seq) Stopped same = refl
    by (Client client seq) NoMemory same = refl
    by (Walk id k client) outcome same = refl
    by (Load key client) outcome same = refl

pub names_same : (facts : Facts) (h h' : List Entry) (items : List Item) → Each (IsSameId facts h h') items → names_at facts h' items ≡ names_at facts h items
names_same facts h h' [] same = refl
names_same facts h h' (x ∷ items) same =
    ap (λ v. v ++ names_at facts h' items) (name_same facts h h' x same.0)
    ∙ ap (λ v. names_in facts h x.shown.fun x.tag x.outcome ++ v) (names_same facts h h' items same.1)

made_one : (facts : Facts) (h h' : List Entry) (id : ℕ) (x : Item) → IsSameId facts h h' x → is_made facts h' id x ≡ is_made facts h id x
made_one facts h h' id x same = by x.tag x.outcome same
  where
    own : (client seq : ℕ) (b : Bool) → (fun_at facts.funs x.shown.fun).creation ≡ b
        → ((fun_at facts.funs x.shown.fun).creation ≡ true → id_given h' client seq ≡ id_given h client seq)
        → b && (id_given h' client seq == id) ≡ b && (id_given h client seq == id)
    own client seq true is same = ap (λ v. v == id) (same is)
    own client seq false is same = refl

    by : (tag : Tag) (outcome : Outcome) → IsSameFor facts h h' x.shown.fun tag outcome
        → is_ok outcome && made_by facts h' id x.shown.fun tag ≡ is_ok outcome && made_by facts h id x.shown.fun tag
    by (Client client seq) (Replied (Ok good) patch) same = own client seq (fun_at facts.funs x.shown.fun).creation refl same
    by (Client client seq) (Replied (Refused code) patch) same = refl
    by (Client client seq) Blocks same = refl
    by (Client client seq) Stopped same = refl
    by (Client client seq) NoMemory same = refl
    by (Walk id k client) outcome same = refl
    by (Load key client) outcome same = refl

pub made_same : (facts : Facts) (h h' : List Entry) (id : ℕ) (items : List Item) → Each (IsSameId facts h h') items
    → list_any (is_made facts h' id) items ≡ list_any (is_made facts h id) items
made_same facts h h' id [] same = refl
made_same facts h h' id (x ∷ items) same =
    ap (λ b. b || list_any (is_made facts h' id) items) (made_one facts h h' id x same.0)
    ∙ ap (λ b. is_made facts h id x || b) (made_same facts h h' id items same.1)

-- ---- what holds of each item holds of those before a place

fronts_in : (Q : Item → Type 0) (older front items newer : List Item) → Each Q front → Each (λ p. Q p.item) (places_in older front items newer)
    → Each (λ p. Each Q p.front) (places_in older front items newer)
fronts_in Q older front [] newer before all = tt
fronts_in Q older front (x ∷ items) newer before all =
    (before, fronts_in Q older (front ++ x ∷ []) items newer (each_push Q front x before all.0) all.1)

pub each_front : (Q : Item → Type 0) (older : List Item) (boots : List Boot) → Each (λ p. Q p.item) (places_from older boots)
    → Each (λ p. Each Q p.front) (places_from older boots)
each_front Q older [] all = tt
each_front Q older (b ∷ boots) all =
    let both = each_split (λ p. Q p.item) (places_in older [] b.items (items_of boots)) (places_from (older ++ b.items) boots) all in
    each_append (λ p. Each Q p.front) (places_in older [] b.items (items_of boots)) (places_from (older ++ b.items) boots)
    (fronts_in Q older [] b.items (items_of boots) tt both.0) (each_front Q (older ++ b.items) boots both.1)
