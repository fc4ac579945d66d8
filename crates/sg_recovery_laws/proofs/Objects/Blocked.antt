-- Who is blocked stays so after an Ok that doesn't wake it: its row is there, in its state, and the guard lets its call pass as before.
use Rattle.std.proofs.Common.{◌≡◌, ℕ, Bool, true, false, cond, not, List, None, Some, length, refl, sym, ◌∙◌, ap}
use Rattle.std.specs.Prelude.{◌==◌, ◌&&◌, if◌then◌else◌, nat_le}
use Rattle.std.specs.declared.option.Option.{Option}
use Rattle.sg_facts.specs.sg_base.declared.call.Call.{Call}
use Rattle.sg_facts.specs.sg_base.declared.reply.Code.{Code}
use Rattle.sg_facts.specs.sg_base.declared.reply.Code.TheVariants.{NoDesc, NoParent, BadState, HasChildren, Full}
use Rattle.sg_facts.specs.sg_base.declared.reply.Good.{Good}
use Rattle.sg_facts.specs.sg_base.declared.reply.Reply.TheVariants.{Ok}
use Rattle.sg_facts.specs.declared.row.Row.{Row}
use Rattle.sg_facts.specs.Allowed.{implies}
use Rattle.sg_facts.specs.Facts.{Facts, fun_at, takes_desc, takes_parent}
use Rattle.sg_facts.specs.Guard.{guard}
use Rattle.sg_facts.specs.Inside.Guards.{in_state, may_be_parent, may_use, refusal}
use Rattle.sg_facts.specs.Limits.{most_live}
use Rattle.sg_facts.specs.Interface.{Declared, moves_on}
use Rattle.sg_facts.specs.Laws.{leaves_blocked, state_in}
use Rattle.sg_facts.specs.Object.{Object, after}
use Rattle.sg_facts.specs.Track.{ends_with, new_row, row_at, rows_after}
use Rattle.sg_facts.specs.Inside.Rows.{has_child}
use Rattle.sg_facts.proofs.RowLists.{row_at-left, row_at-more}
use Rattle.sg_recovery_laws.proofs.Objects.Apart.{changes_row, ends_rows, makes_row, query_keeps}
use Rattle.sg_recovery_laws.proofs.Objects.Changed.{change_at}
use Rattle.sg_recovery_laws.proofs.Objects.Commute.{same_creator_at, same_id_at}
use Rattle.sg_facts.proofs.Replaying.Found.{to_map}
use Rattle.sg_recovery_laws.proofs.Objects.Guarded.{both_true}
use Rattle.sg_recovery_laws.proofs.Objects.Left.{stays}

-- a row that doesn't end stays, under its creator
record StaysOwn (rows : List Row) (id : ℕ) (r : Row) : Type 0 where
  row : Row
  there : row_at rows id ≡ Some row
  creator : row.creator ≡ r.creator

stays_own : (facts : Facts) (rows : List Row) (call : Call) (good : Good) (id : ℕ) (r : Row) → row_at rows id ≡ Some r → ((fun_at facts.funs call.fun).terminal ≡ true → ends_with facts rows call.desc id ≡ false) → StaysOwn (rows_after facts rows call good) id r
stays_own facts rows call good id r there lives = by_query (fun_at facts.funs call.fun).query refl
  where
    by_terminal : (b : Bool) → (fun_at facts.funs call.fun).query ≡ false → (fun_at facts.funs call.fun).creation ≡ false → (fun_at facts.funs call.fun).terminal ≡ b → StaysOwn (rows_after facts rows call good) id r
    by_terminal true row makes ends = record {
      row = r;
      there = ap (λ rs. row_at rs id) (ends_rows facts call good rows row makes ends) ∙ row_at-left (stays facts rows call.desc) rows id (ap not (lives ends)) ∙ there;
      creator = refl;
    }
    by_terminal false row makes ends = record {
      row = change_at facts call good r;
      there = ap (λ rs. row_at rs id) (changes_row facts call good rows row makes ends) ∙ to_map (change_at facts call good) (same_id_at facts call good) rows id r there;
      creator = same_creator_at facts call good r;
    }

    by_creation : (b : Bool) → (fun_at facts.funs call.fun).query ≡ false → (fun_at facts.funs call.fun).creation ≡ b → StaysOwn (rows_after facts rows call good) id r
    by_creation true row makes = record {
      row = r;
      there = ap (λ rs. row_at rs id) (makes_row facts call good rows row makes) ∙ row_at-more rows (new_row facts call good) r id there;
      creator = refl;
    }
    by_creation false row makes = by_terminal (fun_at facts.funs call.fun).terminal row makes refl

    by_query : (b : Bool) → (fun_at facts.funs call.fun).query ≡ b → StaysOwn (rows_after facts rows call good) id r
    by_query true query = record { row = r; there = ap (λ rs. row_at rs id) (query_keeps facts call good rows query) ∙ there; creator = refl }
    by_query false row = by_creation (fun_at facts.funs call.fun).creation row refl

module _ (j : Declared) (o o' : Object) (x : Call) (no_parent : (fun_at j.facts.funs x.fun).query ≡ false → takes_parent (fun_at j.facts.funs x.fun) ≡ false)
    (no_make : (fun_at j.facts.funs x.fun).creation ≡ false) (no_end : (fun_at j.facts.funs x.fun).terminal ≡ false) where
  -- where the row of a call is there under its creator in its state, what neither makes nor ends one passes as before
  pub passes_on : (r r' : Row) → row_at o.rows x.desc ≡ Some r → row_at o'.rows x.desc ≡ Some r' → r'.creator ≡ r.creator → r'.state ≡ r.state → guard j o x ≡ None → guard j o' x ≡ None
  passes_on r r' there there' creator state passes = by (fun_at j.facts.funs x.fun).query refl
    where
      usable : (g : Bool) → cond g true (r'.creator == x.client) ≡ cond g true (r.creator == x.client)
      usable true = refl
      usable false = ap (λ c. c == x.client) creator

      told : Option Row → Bool → Bool → Option Code
      told row room child =
          if takes_parent (fun_at j.facts.funs x.fun) && not (may_be_parent j.facts.parents row x.desc x.client) then Some NoParent
          else if (fun_at j.facts.funs x.fun).creation && room then Some Full
          else if takes_desc (fun_at j.facts.funs x.fun) && not (may_use j.facts row x.client) then Some NoDesc
          else if takes_desc (fun_at j.facts.funs x.fun) && not (in_state j row x.fun) then Some BadState
          else if (fun_at j.facts.funs x.fun).terminal && not j.facts.subtree && child then Some HasChildren
          else None

      shape : (p c t : Bool) → Bool → Bool → Bool → Bool → Bool → Option Code
      shape p c t parent room may state child =
          if p && not parent then Some NoParent
          else if c && room then Some Full
          else if takes_desc (fun_at j.facts.funs x.fun) && not may then Some NoDesc
          else if takes_desc (fun_at j.facts.funs x.fun) && not state then Some BadState
          else if t && not j.facts.subtree && child then Some HasChildren
          else None

      plain : (p c t : Bool) → p ≡ false → c ≡ false → t ≡ false → (a1 a2 b1 b2 d1 d2 u s : Bool) → shape p c t a1 b1 u s d1 ≡ shape p c t a2 b2 u s d2
      plain true c t p_is c_is t_is a1 a2 b1 b2 d1 d2 u s = absurd (cc p_is)
      plain false true t p_is c_is t_is a1 a2 b1 b2 d1 d2 u s = absurd (cc c_is)
      plain false false true p_is c_is t_is a1 a2 b1 b2 d1 d2 u s = absurd (cc t_is)
      plain false false false p_is c_is t_is a1 a2 b1 b2 d1 d2 u s = refl

      by : (b : Bool) → (fun_at j.facts.funs x.fun).query ≡ b → guard j o' x ≡ None
      by true query = ap (λ b. cond b None (refusal j (fun_at j.facts.funs x.fun) o' x)) query
      by false row =
          let f = fun_at j.facts.funs x.fun in
          let was : refusal j (fun_at j.facts.funs x.fun) o x ≡ None = sym (ap (λ b. cond b None (refusal j (fun_at j.facts.funs x.fun) o x)) row) ∙ passes in
          let room : Bool = nat_le most_live (length o.rows) in
          let room' : Bool = nat_le most_live (length o'.rows) in
          let child : Bool = has_child o.rows x.desc in
          let child' : Bool = has_child o'.rows x.desc in
          let usable_is : may_use j.facts (Some r') x.client ≡ may_use j.facts (Some r) x.client = usable j.facts.global in
          let st : in_state j (Some r') x.fun ≡ in_state j (Some r) x.fun = ap (λ s. moves_on j s x.fun) state in
          ap (λ b. cond b None (refusal j (fun_at j.facts.funs x.fun) o' x)) row
          ∙ ap (λ w. told w room' child') there'
          ∙ ap (λ u. shape (takes_parent (fun_at j.facts.funs x.fun)) (fun_at j.facts.funs x.fun).creation (fun_at j.facts.funs x.fun).terminal (may_be_parent j.facts.parents (Some r') x.desc x.client) room' u (in_state j (Some r') x.fun) child') usable_is
          ∙ ap (λ s. shape (takes_parent (fun_at j.facts.funs x.fun)) (fun_at j.facts.funs x.fun).creation (fun_at j.facts.funs x.fun).terminal (may_be_parent j.facts.parents (Some r') x.desc x.client) room' (may_use j.facts (Some r) x.client) s child') st
          ∙ plain (takes_parent (fun_at j.facts.funs x.fun)) (fun_at j.facts.funs x.fun).creation (fun_at j.facts.funs x.fun).terminal (no_parent row) no_make no_end
          (may_be_parent j.facts.parents (Some r') x.desc x.client) (may_be_parent j.facts.parents (Some r) x.desc x.client) room' room child' child (may_use j.facts (Some r) x.client) (in_state j (Some r) x.fun)
          ∙ ap (λ w. told w room child) (sym there) ∙ was

-- the row of who is blocked stays, where the Ok doesn't wake it
pub row_stays : (facts : Facts) (o : Object) (call x : Call) (good : Good) (r : Row) → row_at o.rows x.desc ≡ Some r → leaves_blocked facts o call x ≡ true
    → state_in (row_at (after facts o call (Ok good)).rows x.desc) ≡ state_in (row_at o.rows x.desc)
    → (r' : Row) × (row_at (after facts o call (Ok good)).rows x.desc ≡ Some r') × (r'.creator ≡ r.creator) × (r'.state ≡ r.state)
row_stays facts o call x good r there leaves state =
    let parts = both_true (implies (fun_at facts.funs call.fun).wakeup (not (call.desc == x.desc))) (implies (fun_at facts.funs call.fun).terminal (not (ends_with facts o.rows call.desc x.desc))) leaves in
    let s = stays_own facts o.rows call good x.desc r there (λ ends. no_it (ends_with facts o.rows call.desc x.desc) (sym (ap (λ b. implies b (not (ends_with facts o.rows call.desc x.desc))) ends) ∙ parts.1)) in
    (s.row, s.there, s.creator, sym (ap state_in s.there) ∙ state ∙ ap state_in there)
  where
    no_it : (b : Bool) → not b ≡ true → b ≡ false
    no_it true is = absurd (cc is)
    no_it false is = refl
