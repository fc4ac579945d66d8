-- Why a text is refused, by the fault that it has.
use Rattle.std.proofs.Common.{◌≡◌, ℕ, Bool, true, false, List, [], ◌++◌, None, Some, Ok, Err, refl, sym, ◌∙◌, ap, subst, append-nil, append_assoc}
use Rattle.std.specs.Prelude.{codes, if◌then◌else◌, IfOk, OnOk}
use Rattle.std.specs.declared.result.Result.{Result}
use Rattle.sg_input.specs.sg_facts.Facts.{Facts}
use Rattle.sg_input.specs.sg_check_statements.Faults.{IsFault}
use Rattle.sg_input.specs.sg_check_statements.declared.fault.CheckKind.{CheckKind}
use Rattle.sg_input.specs.sg_check_statements.declared.fault.CheckKind.TheVariants.{UnknownService, DuplicateName, UnknownFunction, BadParams, WrongFact, WrongFlag, WrongEffect, ForeignTransition, ForeignRecover, NoCreation, Unreached, NoWalk}
use Rattle.sg_input.specs.Lines.{refused_line}
use Rattle.sg_input.specs.Verdicts.{IsRefused, is_own, refusal_name, services_for}
use Rattle.sg_input.specs.declared.refusal.RefusalKind.{RefusalKind}
use Rattle.sg_input.specs.declared.refusal.RefusalKind.TheVariants.{Check}
use Rattle.sg_input.specs.sg_parse.Grammar.Parses.{Parses}
use Rattle.sg_input.specs.sg_parse.declared.tree.Tree.{Tree}
use Rattle.sg_explain.specs.Explained.{IsMore, why_at}
use Rattle.sg_explain.specs.Stuck.{IsStuckLine}
use Rattle.sg_explain.specs.Words.{Sentences, refusal_words}
use Rattle.sg_explain.specs.Inside.Pieces.{TellsReason, TellsRefusal}

module _ (services : List Facts) (text : List ℕ) where
  -- nothing is told besides of any other kind than a state without a walk
  pub nothing_more : (kind : CheckKind) (at : ℕ) → (kind ≡ NoWalk → ⊥) → IsMore services text (Check kind) at []
  nothing_more UnknownService at other = refl
  nothing_more DuplicateName at other = refl
  nothing_more UnknownFunction at other = refl
  nothing_more BadParams at other = refl
  nothing_more WrongFact at other = refl
  nothing_more WrongFlag at other = refl
  nothing_more WrongEffect at other = refl
  nothing_more ForeignTransition at other = refl
  nothing_more ForeignRecover at other = refl
  nothing_more NoCreation at other = refl
  nothing_more Unreached at other = refl
  nothing_more NoWalk at other = absurd (other refl)

  -- a kind and a place, with what is told besides
  tells : (kind : RefusalKind) (at : ℕ) (words : Sentences) (old middle new more : List ℕ) → words ≡ refusal_words kind → IsRefused services text kind at → IsMore services text kind at more
      → middle ≡ old ++ why_at text at words → new ≡ middle ++ more → TellsReason services text old new
  tells kind at words old middle new more same refused besides is add = (
    why_at text at (refusal_words kind) ++ more,
    record { kind = kind; at = at; refused = refused; more = more; besides = besides; is = refl },
    add ∙ ap (λ l. l ++ more) (is ∙ ap (λ w. old ++ why_at text at w) same) ∙ append_assoc old (why_at text at (refusal_words kind)) more,
  )

  -- a kind and a place, of which nothing is told besides
  pub tells_alone : (kind : RefusalKind) (at : ℕ) (words : Sentences) (old new : List ℕ) → words ≡ refusal_words kind → IsRefused services text kind at → IsMore services text kind at []
      → new ≡ old ++ why_at text at words → TellsReason services text old new
  tells_alone kind at words old new same refused besides is = tells kind at words old new new [] same refused besides is (sym (append-nil new))

  -- a state without a walk, of which a line is told besides
  pub tells_stuck : {X E : Type 0} (r : Result X E) (tree : Tree) (kind : CheckKind) (at : ℕ) (words : Sentences) (old middle new : List ℕ) → kind ≡ NoWalk → words ≡ refusal_words (Check kind)
      → Parses text (Ok tree) → IsFault (services_for services tree) tree kind at → middle ≡ old ++ why_at text at words
      → OnOk r ((line : List ℕ) × IsStuckLine services tree at line × (new ≡ middle ++ line)) → OnOk r (TellsReason services text old new)
  tells_stuck (Ok x) tree kind at words old middle new is same parses fault said (line, stuck, add) =
      tells (Check kind) at words old middle new line same (tree, parses, fault) (subst (λ k. IsMore services text (Check k) at line) (sym is) (tree, parses, stuck)) said add
  tells_stuck (Err e) tree kind at words old middle new is same parses fault said add = tt

-- a state without a walk is one of a service that there is
pub of_service : (services : List Facts) (tree : Tree) (at : ℕ) → IsFault (services_for services tree) tree NoWalk at → IsFault services tree NoWalk at
of_service services tree at fault = by (is_own tree) fault
  where
    by : (own : Bool) → IsFault (if own then [] else services) tree NoWalk at → IsFault services tree NoWalk at
    by true none = let wrong : None ≡ Some none.here.0 = none.here.1 in absurd (cc wrong)
    by false found = found

-- the line of a kind and a place, with the sentences of that kind
pub tells_at : {E : Type 0} (text : List ℕ) (r : Result (List ℕ) E) (kind : RefusalKind) (at : ℕ) → ((services : List Facts) → IsRefused services text kind at)
    → ((services : List Facts) → IsMore services text kind at [])
    → IfOk r (λ told. told ≡ refused_line (codes "interface refused at ") text at (refusal_name kind) ++ why_at text at (refusal_words kind))
    → IfOk r (λ told. (services : List Facts) → TellsRefusal services text told)
tells_at text (Ok told) kind at refused besides is = λ services.
    let line = refused_line (codes "interface refused at ") text at (refusal_name kind) in
    (line, (kind, at, refused services, refl), tells_alone services text kind at (refusal_words kind) line told refl (refused services) (besides services) is)
tells_at text (Err e) kind at refused besides is = tt
