-- What proofs know of each of the services: it is played, its name is its own, its shape is allowed, and its functions have names.
use Rattle.std.proofs.Common.{◌≡◌, ℕ, true, List, [], ◌∷◌, map, slice_index_or, refl, sym, ◌∙◌, ap, subst, arith}
use Rattle.std.proofs.lemmas.List.Elements.{All-contains, All-map}
use Rattle.std.specs.List.{All, Contains}
use Rattle.std.specs.Prelude.{if◌then◌else◌}
use Rattle.std.specs.Str.{bytes_eq}
use Rattle.sg_multi.specs.sg_facts.Allowed.{is_allowed}
use Rattle.sg_multi.specs.sg_facts.Facts.{Facts, Fun}
use Rattle.sg_multi.specs.sg_facts.sg_base.Lists.{Each}
use Rattle.sg_judge.specs.sg_input.sg_entries.Inside.Classes.{IsName}
use Rattle.sg_load.specs.Services.{answering, facts_by, played_services, standard}
use Rattle.sg_load.specs.declared.kind.ServiceKind.{ServiceKind}
use Rattle.sg_load.specs.declared.kind.ServiceKind.TheVariants.{Locks, Events, Pages, Files, Threads, Timers}
use Rattle.sg_load.specs.sg_check_statements.Shapes.{all_differ}
use Rattle.sg_load.specs.sg_plain.Answering.{Answering}
use Rattle.sg_top.specs.Answer.{services}
use Rattle.sg_top.specs.Inside.Plays.{IsPlayed}

-- ---- by cases on the kind: a further service has a line in each

-- the kind of a service, by its name
abbrev pub kind_called : List ℕ → ServiceKind
kind_called name =
    if bytes_eq name (facts_by Locks).name then Locks
    else if bytes_eq name (facts_by Events).name then Events
    else if bytes_eq name (facts_by Pages).name then Pages
    else if bytes_eq name (facts_by Files).name then Files
    else if bytes_eq name (facts_by Threads).name then Threads
    else Timers

-- the kind of a service is the one that its name says
pub called : (kind : ServiceKind) → kind_called (facts_by kind).name ≡ kind
called Locks = refl
called Events = refl
called Pages = refl
called Files = refl
called Threads = refl
called Timers = refl

-- the facts of a kind are those of its service
pub its_facts : (kind : ServiceKind) → facts_by kind ≡ (answering kind).facts
its_facts kind = refl

-- its service is among those that are played
pub is_served : (kind : ServiceKind) → Contains played_services (answering kind)
is_served Locks = (0, omega arith, refl)
is_served Events = (1, omega arith, refl)
is_served Pages = (2, omega arith, refl)
is_served Files = (3, omega arith, refl)
is_served Threads = (4, omega arith, refl)
is_served Timers = (5, omega arith, refl)

-- the kinds whose services are played
abbrev kinds : List ServiceKind
kinds = Locks ∷ Events ∷ Pages ∷ Files ∷ Threads ∷ Timers ∷ []

-- its shape is allowed
allowed : (kind : ServiceKind) → is_allowed (facts_by kind) ≡ true
allowed Locks = refl
allowed Events = refl
allowed Pages = refl
allowed Files = refl
allowed Threads = refl
allowed Timers = refl

-- its standard interface has its shape
standard_facts : (kind : ServiceKind) → (standard kind).facts ≡ facts_by kind
standard_facts Locks = refl
standard_facts Events = refl
standard_facts Pages = refl
standard_facts Files = refl
standard_facts Threads = refl
standard_facts Timers = refl

-- the names of a service's functions differ, and are names as entries are written with
pub record AreNamed (funs : List Fun) : Type 0 where
  pub differ : all_differ (map (λ f. f.name) funs) ≡ true
  pub each : Each (λ f. IsName f.name) funs

named : (kind : ServiceKind) → AreNamed (facts_by kind).funs
named Locks = record { differ = refl; each = ((refl, refl), ((refl, refl), ((refl, refl), ((refl, refl), tt)))) }
named Events = record { differ = refl; each = ((refl, refl), ((refl, refl), ((refl, refl), ((refl, refl), ((refl, refl), tt))))) }
named Pages = record { differ = refl; each = ((refl, refl), ((refl, refl), ((refl, refl), ((refl, refl), tt)))) }
named Files = record { differ = refl; each = ((refl, refl), ((refl, refl), ((refl, refl), ((refl, refl), ((refl, refl), tt))))) }
named Threads = record { differ = refl; each = ((refl, refl), ((refl, refl), ((refl, refl), ((refl, refl), ((refl, refl), ((refl, refl), ((refl, refl), ((refl, refl), tt)))))))) }
named Timers = record { differ = refl; each = ((refl, refl), ((refl, refl), ((refl, refl), ((refl, refl), ((refl, refl), ((refl, refl), ((refl, refl), tt))))))) }

-- ---- of any kind

-- kinds whose services have one name are one
pub same_name : (a b : ServiceKind) → (facts_by a).name ≡ (facts_by b).name → a ≡ b
same_name a b is = sym (called a) ∙ ap kind_called is ∙ called b

-- its shape is allowed, and so is that of its standard interface
pub allowed_kind : (facts : Facts) (kind : ServiceKind) → facts_by kind ≡ facts → is_allowed facts ≡ true
allowed_kind facts kind its = subst (λ (f : Facts). is_allowed f ≡ true) its (allowed kind)

pub allowed_standard : (kind : ServiceKind) → is_allowed (standard kind).facts ≡ true
allowed_standard kind = allowed_kind (standard kind).facts kind (sym (standard_facts kind))

-- ---- of facts that are played

-- facts are those of a kind
abbrev IsOfKind : Facts → Type 0
IsOfKind facts = (kind : ServiceKind) × (facts_by kind ≡ facts)

-- what holds of the facts of each kind holds of all that are played
of_kinds : (P : Facts → Type 0) → ((kind : ServiceKind) → P (answering kind).facts) → (some : List ServiceKind)
    → All P (map (λ (s : Answering). s.facts) (map answering some))
of_kinds P each some =
    All-map P (λ (s : Answering). s.facts) (map answering some)
    (All-map (λ (s : Answering). P s.facts) answering some (λ k d within. each (slice_index_or some k d)))

-- facts that are played are those of a kind
of_kind : (facts : Facts) → IsPlayed facts → IsOfKind facts
of_kind facts played = All-contains IsOfKind services facts (of_kinds IsOfKind (λ kind. (kind, its_facts kind)) kinds) played

-- they are those of the kind whose name they have
pub its_kind : (facts : Facts) (kind : ServiceKind) → IsPlayed facts → facts.name ≡ (facts_by kind).name → facts_by kind ≡ facts
its_kind facts kind played is =
    let one = of_kind facts played in
    let same : one.0 ≡ kind = same_name one.0 kind (ap (λ (f : Facts). f.name) one.1 ∙ is) in
    ap facts_by (sym same) ∙ one.1

-- and some kind has their name
pub has_kind : (facts : Facts) → IsPlayed facts → ((kind : ServiceKind) → facts.name ≡ (facts_by kind).name → ⊥) → ⊥
has_kind facts played none = let one = of_kind facts played in none one.0 (sym (ap (λ (f : Facts). f.name) one.1))

-- their functions have names
pub named_played : (facts : Facts) → IsPlayed facts → AreNamed facts.funs
named_played facts played = let one = of_kind facts played in subst (λ (f : Facts). AreNamed f.funs) one.1 (named one.0)

-- ---- of services that are played

-- a service is that of a kind
abbrev IsServiceOfKind : Answering → Type 0
IsServiceOfKind service = (kind : ServiceKind) × (answering kind ≡ service)

-- services that are played are those of kinds
kind_at : (service : Answering) → Contains played_services service → IsServiceOfKind service
kind_at service played = All-contains IsServiceOfKind played_services service (All-map IsServiceOfKind answering kinds (λ k d within. (slice_index_or kinds k d, refl))) played

-- those that have the same facts are one
pub same_service : (one other : Answering) → Contains played_services one → Contains played_services other → one.facts ≡ other.facts → one ≡ other
same_service one other played played' facts =
    let a = kind_at one played in
    let b = kind_at other played' in
    let names : (facts_by a.0).name ≡ (facts_by b.0).name = ap (λ (s : Answering). s.facts.name) a.1 ∙ ap (λ (f : Facts). f.name) facts ∙ sym (ap (λ (s : Answering). s.facts.name) b.1) in
    sym a.1 ∙ ap answering (same_name a.0 b.0 names) ∙ b.1
