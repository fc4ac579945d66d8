-- Which ids are live and which files have bytes after an answered call, and what an item made stays made where entries are added.
use Rattle.std.proofs.Common.{◌≡◌, ◌≢◌, ◌⊎◌, ℕ, ◌≤◌, Bool, true, false, cond, List, [], ◌∷◌, ◌++◌, None, Some, find, refl, sym, ◌∙◌, ap, inl, inr, arith}
use Rattle.std.specs.Prelude.{◌==◌, ◌&&◌, ◌||◌}
use Rattle.std.specs.List.{list_any}
use Rattle.std.specs.Str.{bytes_eq}
use Rattle.std.specs.declared.option.Option.{Option}
use Rattle.std.proofs.lemmas.Bool.{and_parts, or_cases, or_left, or_right}
use Rattle.std.proofs.lemmas.Bool.Decides.{nat_tests}
use Rattle.std.proofs.lemmas.List.Folds.{list_any-append}
use Rattle.sg_facts.specs.sg_base.declared.call.Call.{Call}
use Rattle.sg_facts.specs.sg_base.declared.reply.Good.{Good}
use Rattle.sg_facts.specs.sg_base.declared.reply.Reply.{Reply}
use Rattle.sg_facts.specs.sg_base.declared.reply.Reply.TheVariants.{Ok, Refused}
use Rattle.sg_facts.specs.declared.entry.Entry.{Entry}
use Rattle.sg_facts.specs.declared.outcome.Patch.{Patch}
use Rattle.sg_facts.specs.declared.row.Row.{Row}
use Rattle.sg_facts.specs.declared.trace.Item.{Item}
use Rattle.sg_facts.specs.declared.trace.Tag.{Tag}
use Rattle.sg_facts.specs.declared.trace.Tag.TheVariants.{Walk, Load, Client}
use Rattle.sg_facts.specs.Facts.{Facts, fun_at, writes}
use Rattle.sg_facts.specs.Object.{Object, file_at, first_text, over, patch_of, path_of, place_of}
use Rattle.sg_facts.specs.Inside.Rows.{patch_at, patched, track}
use Rattle.sg_facts.specs.Track.{is_live, new_row, row_at, rows_after}
use Rattle.sg_facts.proofs.RowLists.{row_of_live}
use Rattle.sg_plain.specs.sg_hist.Reading.{desc_in, id_given, is_made, is_ok}
use Rattle.sg_plain.specs.sg_hist.Inside.Reads.{made_by}
use Rattle.sg_world.proofs.sg_recovery_laws.Objects.Apart.{makes_row, query_keeps}
use Rattle.sg_world.proofs.sg_recovery_laws.Objects.Files.{set_other}
use Rattle.sg_world.proofs.sg_recovery_laws.Objects.Steady.{fewer_after}
use Rattle.sg_world.proofs.sg_recovery_laws.Given.{is_numbered}
use Rattle.sg_facts.proofs.Replaying.Files.{told}

-- ---- ids

-- a reply made an id
pub record Makes (facts : Facts) (call : Call) (reply : Reply) (id : ℕ) : Type 0 where
  pub good : Good
  pub is : reply ≡ Ok good
  pub creation : (fun_at facts.funs call.fun).creation ≡ true
  pub own : good.desc ≡ id

-- an id that is live after a call was so before, or its reply made it
pub live_before : (facts : Facts) (rows : List Row) (call : Call) (reply : Reply) (id : ℕ) → is_live (track facts rows call reply) id ≡ true → (is_live rows id ≡ true) ⊎ Makes facts call reply id
live_before facts rows call (Refused code) id live = inl live
live_before facts rows call (Ok good) id live = by (fun_at facts.funs call.fun).query refl (fun_at facts.funs call.fun).creation refl
  where
    by : (q : Bool) → (fun_at facts.funs call.fun).query ≡ q → (m : Bool) → (fun_at facts.funs call.fun).creation ≡ m → (is_live rows id ≡ true) ⊎ Makes facts call (Ok good) id
    by q query false makes =
        let row = row_of_live (rows_after facts rows call good) id live in
        inl (fewer_after facts rows call good makes id row.0 row.1)
    by true query true makes = inl (ap (λ l. is_live l id) (sym (query_keeps facts call good rows query)) ∙ live)
    by false query true makes =
        at (or_cases (is_live rows id) ((good.desc == id) || false)
        (sym (list_any-append (λ r. r.id == id) rows (new_row facts call good ∷ [])) ∙ ap (λ l. is_live l id) (sym (makes_row facts call good rows query makes)) ∙ live))
      where
        same : ((good.desc == id) ≡ true) ⊎ (false ≡ true) → good.desc ≡ id
        same (inl it) = grind (arith, nat_tests)
        same (inr not_so) = absurd (cc not_so)

        at : (is_live rows id ≡ true) ⊎ (((good.desc == id) || false) ≡ true) → (is_live rows id ≡ true) ⊎ Makes facts call (Ok good) id
        at (inl was) = inl was
        at (inr new) = inr (record { good = good; is = refl; creation = makes; own = same (or_cases (good.desc == id) false new) })

-- ---- files

-- a file that has bytes after a patch had some before, or is the patch's
pub bytes_before : (files : List (List ℕ × List ℕ)) (patch : Option Patch) (path : List ℕ) → file_at (patched files patch) path ≢ []
    → (file_at files path ≢ []) ⊎ ((p : Patch) × (patch ≡ Some p) × (p.key ≡ path))
bytes_before files None path some = inl some
bytes_before files (Some p) path some = by (told p.key path)
  where
    by : ((bytes_eq p.key path ≡ true) × (p.key ≡ path)) ⊎ ((bytes_eq p.key path ≡ false) × (p.key ≢ path)) → (file_at files path ≢ []) ⊎ ((q : Patch) × (Some p ≡ Some q) × (q.key ≡ path))
    by (inl same) = inr (p, refl, same.1)
    by (inr other) = inl (λ none. some (set_other files p.key (over (file_at files p.key) p.from p.bytes) path other.1 ∙ none))

-- bytes are written by a function that uses its file
pub writes_file : (facts : Facts) (fun : ℕ) → writes (fun_at facts.funs fun) ≡ true → (fun_at facts.funs fun).uses_file ≡ true
writes_file facts fun is = (and_parts (fun_at facts.funs fun).uses_file _ is).0

-- what a call writes that was answered so
pub record Writes (facts : Facts) (o : Object) (call : Call) (reply : Reply) (path : List ℕ) : Type 0 where
  pub good : Good
  pub is : reply ≡ Ok good
  pub writing : writes (fun_at facts.funs call.fun) ≡ true
  pub some : first_text call.args ≢ []
  pub own : path_of o.rows call.desc ≡ path

pub writes_what : (facts : Facts) (o : Object) (call : Call) (reply : Reply) (p : Patch) (path : List ℕ) → patch_of facts o call reply ≡ Some p → p.key ≡ path → Writes facts o call reply path
writes_what facts o call (Refused code) p path is own = absurd (cc is)
writes_what facts o call (Ok good) p path is own = by (writes (fun_at facts.funs call.fun)) refl is
  where
    patch : (bytes : List ℕ) → patch_at (path_of o.rows call.desc) (place_of (fun_at facts.funs call.fun) (row_at o.rows call.desc)) bytes ≡ Some p → (bytes ≢ []) × (path_of o.rows call.desc ≡ path)
    patch [] none = absurd (cc none)
    patch (b ∷ bytes) one = let same : record { key = path_of o.rows call.desc; from = place_of (fun_at facts.funs call.fun) (row_at o.rows call.desc); bytes = b ∷ bytes } ≡ p = cc one in
        ((λ none. cc none), ap (λ q. q.key) same ∙ own)

    by : (w : Bool) → writes (fun_at facts.funs call.fun) ≡ w
        → cond w (patch_at (path_of o.rows call.desc) (place_of (fun_at facts.funs call.fun) (row_at o.rows call.desc)) (first_text call.args)) None ≡ Some p → Writes facts o call (Ok good) path
    by false writing none = absurd (cc none)
    by true writing one = let both = patch (first_text call.args) one in record { good = good; is = refl; writing = writing; some = both.0; own = both.1 }

-- and the other way round
pub writes_there : (facts : Facts) (o : Object) (call : Call) (good : Good) → writes (fun_at facts.funs call.fun) ≡ true → first_text call.args ≢ []
    → (p : Patch) × (patch_of facts o call (Ok good) ≡ Some p) × (p.key ≡ path_of o.rows call.desc)
writes_there facts o call good writing some =
    let both = patch (first_text call.args) some in
    (both.0, ap (λ w. cond w (patch_at (path_of o.rows call.desc) (place_of (fun_at facts.funs call.fun) (row_at o.rows call.desc)) (first_text call.args)) None) writing ∙ both.1, both.2)
  where
    patch : (bytes : List ℕ) → bytes ≢ []
        → (p : Patch) × (patch_at (path_of o.rows call.desc) (place_of (fun_at facts.funs call.fun) (row_at o.rows call.desc)) bytes ≡ Some p) × (p.key ≡ path_of o.rows call.desc)
    patch [] some = absurd (some refl)
    patch (b ∷ bytes) some = (record { key = path_of o.rows call.desc; from = place_of (fun_at facts.funs call.fun) (row_at o.rows call.desc); bytes = b ∷ bytes }, refl, refl)

-- ---- what items made

-- an id that was given is given still where an entry comes
id_stays : (h : List Entry) (e : Entry) (client seq : ℕ) → 1 ≤ id_given h client seq → id_given (h ++ e ∷ []) client seq ≡ id_given h client seq
id_stays [] e client seq some = absurd (omega (arith, some))
id_stays (x ∷ h) e client seq some = by (is_numbered client seq x) some (id_stays h e client seq)
  where
    by : (b : Bool) → 1 ≤ desc_in (cond b (Some x) (find (is_numbered client seq) h)) → (1 ≤ id_given h client seq → id_given (h ++ e ∷ []) client seq ≡ id_given h client seq)
        → desc_in (cond b (Some x) (find (is_numbered client seq) (h ++ e ∷ []))) ≡ desc_in (cond b (Some x) (find (is_numbered client seq) h))
    by true some rest = refl
    by false some rest = rest some

made_stays : (facts : Facts) (h : List Entry) (e : Entry) (id : ℕ) (x : Item) → 1 ≤ id → is_made facts h id x ≡ true → is_made facts (h ++ e ∷ []) id x ≡ true
made_stays facts h e id x some is = let both = and_parts (is_ok x.outcome) _ is in ap (λ b. b && made_by facts (h ++ e ∷ []) id x.shown.fun x.tag) both.0 ∙ by x.tag both.1
  where
    by : (tag : Tag) → made_by facts h id x.shown.fun tag ≡ true → made_by facts (h ++ e ∷ []) id x.shown.fun tag ≡ true
    by (Walk i k client) made = absurd (cc made)
    by (Load key client) made = absurd (cc made)
    by (Client client seq) made =
        let both = and_parts (fun_at facts.funs x.shown.fun).creation (id_given h client seq == id) made in
        let it : id_given h client seq ≡ id = same (id_given h client seq) both.1 in
        ap (λ b. b && (id_given (h ++ e ∷ []) client seq == id)) both.0 ∙ ap (λ n. n == id) (id_stays h e client seq (omega (arith, it, some))) ∙ both.1
      where
        same : (n : ℕ) → (n == id) ≡ true → n ≡ id
        same n is = grind (arith, nat_tests)

pub all_made_stay : (facts : Facts) (h : List Entry) (e : Entry) (id : ℕ) (items : List Item) → 1 ≤ id → list_any (is_made facts h id) items ≡ true → list_any (is_made facts (h ++ e ∷ []) id) items ≡ true
all_made_stay facts h e id [] some any = absurd (cc any)
all_made_stay facts h e id (x ∷ items) some any = by (or_cases (is_made facts h id x) (list_any (is_made facts h id) items) any) (all_made_stay facts h e id items some)
  where
    by : (is_made facts h id x ≡ true) ⊎ (list_any (is_made facts h id) items ≡ true) → (list_any (is_made facts h id) items ≡ true → list_any (is_made facts (h ++ e ∷ []) id) items ≡ true)
        → (is_made facts (h ++ e ∷ []) id x || list_any (is_made facts (h ++ e ∷ []) id) items) ≡ true
    by (inl here) rest = or_left (is_made facts (h ++ e ∷ []) id x) _ (made_stays facts h e id x some here)
    by (inr there) rest = or_right (is_made facts (h ++ e ∷ []) id x) _ (rest there)

pub any_left : (test : Item → Bool) (xs ys : List Item) → list_any test xs ≡ true → list_any test (xs ++ ys) ≡ true
any_left test xs ys is = list_any-append test xs ys ∙ or_left (list_any test xs) (list_any test ys) is

pub any_right : (test : Item → Bool) (xs ys : List Item) → list_any test ys ≡ true → list_any test (xs ++ ys) ≡ true
any_right test xs ys is = list_any-append test xs ys ∙ or_right (list_any test xs) (list_any test ys) is
