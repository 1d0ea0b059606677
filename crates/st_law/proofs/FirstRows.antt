-- A run begins as the rows of its script say.
use native.Mathlib.Omega.{arith}
use Rattle.std.proofs.Common.{◌≡◌, ◌≢◌, ◌≤◌, ◌<◌, ◌⊎◌, ℕ, zero, suc, ◌+◌, ◌*◌, Bool, true, false, cond, ◌==◌, List, [], ◌∷◌, ◌++◌, length, replicate, Option, Some, None, unwrap_or, fold, refl, sym, ap, subst, ◌∙◌, length-append, inl, inr}
use Rattle.std.proofs.lemmas.Bool.{eq-eqb, eqb-true, eqb-false, ne_eqb}
use Rattle.std.specs.BTreeMap.{is_at}
use Rattle.std.specs.List.{range_with_len}
use Rattle.std.specs.Map.{lookup}
use Rattle.std.specs.Ordering.{nat_cmp}
use Rattle.std.specs.Prelude.{slice_index_or}
use Rattle.st_base.proofs.Insertions.{lookup-insert_number}
use Rattle.st_base.specs.Numbered.{item_at_number}
use Rattle.st_base.specs.Ids.{identity}
use Rattle.st_model.specs.DescriptorCalls.{console, first_three_places, table_after_start}
use Rattle.st_model.specs.Descriptors.{Table, file_number_at}
use Rattle.st_model.specs.Tree.{Tree, Node, node_of_new, node_of_number, object_of, node_at, node_of, root_node, root_only}
use Rattle.st_model.proofs.Objects.{number_added, names_kept, node_added, objects_kept}
use Rattle.st_names.specs.Name.{Components}
use Rattle.st_trace.specs.declared.start.ProcessRow.{ProcessRow}
use Rattle.st_trace.specs.declared.start.ThreadRow.{ThreadRow}
use Rattle.st_trace.specs.declared.start.TreeRow.{TreeRow}
use Rattle.st_law.specs.declared.input.Input.{Input}
use Rattle.st_law.specs.Meaning.{NoneNamed, ThreadBegins, ProcessBegins, TreeBegins, ConsolesBegin}
use Rattle.st_law.specs.Processes.{first_ids, process_of_row, tree_with_row, first_tree, no_descriptors, first_descriptors}
use Rattle.st_law.specs.Threads.{owner_of_row, body_of_row, first_owner, body_of}

-- ---- threads and processes

pub thread_begins : (i : Input) (t : ℕ) (row : ThreadRow) → item_at_number i.start.threads t ≡ Some row → ThreadBegins i t row
thread_begins i t row e = record {
  body_is = ap body_of_row e;
  in_process = λ p f. ap owner_of_row e ∙ ap (λ o. unwrap_or o 0) f;
  by_fork = λ f. ap owner_of_row e ∙ ap (λ o. unwrap_or o 0) f;
}

pub no_thread : (i : Input) (t : ℕ) → item_at_number i.start.threads t ≡ None → (first_owner i t ≡ 0) × (body_of i t ≡ [])
no_thread i t e = (ap owner_of_row e, ap body_of_row e)

module _ (i : Input) (p : ℕ) (row : ProcessRow) (e : item_at_number i.start.processes p ≡ Some row) where
  own_ids : (given : Option (ℕ × ℕ)) → first_ids given false row.uid row.gid ≡ identity row.uid row.gid
  own_ids None = refl
  own_ids (Some given) = refl

  own : (i.options.ids ≡ None) ⊎ (row.traced ≡ false) → first_ids i.options.ids row.traced row.uid row.gid ≡ identity row.uid row.gid
  own (inl none) = ap (λ given. first_ids given row.traced row.uid row.gid) none
  own (inr untraced) = ap (λ traced. first_ids i.options.ids traced row.uid row.gid) untraced ∙ own_ids i.options.ids

  pub process_begins : ProcessBegins i p row
  process_begins = record {
    traced_is = ap (λ o. (process_of_row i p o).traced) e;
    policy_is = ap (λ o. (process_of_row i p o).policy) e;
    cwd_is = ap (λ o. (process_of_row i p o).cwd) e;
    space_is = ap (λ o. (process_of_row i p o).space) e;
    given = λ u g given traced. ap (λ o. (process_of_row i p o).ids) e ∙ (λ k. first_ids (given k) (traced k) row.uid row.gid);
    own = λ x. ap (λ o. (process_of_row i p o).ids) e ∙ own x;
  }

-- ---- the tree

rows_apart : (tree : Tree) (before after : List TreeRow) → fold tree_with_row tree (before ++ after) ≡ fold tree_with_row (fold tree_with_row tree before) after
rows_apart tree [] after = refl
rows_apart tree (row ∷ before) after = rows_apart (tree_with_row tree row) before after

root_kept : (tree : Tree) (rows : List TreeRow) → node_of tree [] ≡ Some root_node → node_of (fold tree_with_row tree rows) [] ≡ Some root_node
root_kept tree [] e = e
root_kept tree (row ∷ rows) e = root_kept (tree_with_row tree row) rows (objects_kept tree row.name (node_of_new row.new) root_node 1 e)

-- a name that no row has keeps its object's number
number_kept : (tree : Tree) (rows : List TreeRow) (name : Components) → NoneNamed name rows → object_of (fold tree_with_row tree rows) name ≡ object_of tree name
number_kept tree [] name none = refl
number_kept tree (row ∷ rows) name none =
    number_kept (tree_with_row tree row) rows name none.1 ∙ names_kept tree row.name name (node_of_new row.new) (λ same. none.0 (sym same))

-- an object that exists is kept
object_kept : (tree : Tree) (rows : List TreeRow) (number : ℕ) (node : Node) → node_of_number tree number ≡ Some node → node_of_number (fold tree_with_row tree rows) number ≡ Some node
object_kept tree [] number node e = e
object_kept tree (row ∷ rows) number node e = object_kept (tree_with_row tree row) rows number node (objects_kept tree row.name (node_of_new row.new) node number e)

length-objects : (tree : Tree) (rows : List TreeRow) → length (fold tree_with_row tree rows).objects ≡ length tree.objects + length rows
length-objects tree [] = omega arith
length-objects tree (row ∷ rows) =
    let more = length-append tree.objects (node_of_new row.new ∷ []) in
    let rest = length-objects (tree_with_row tree row) rows in
    omega (arith, more, rest)

module _ (rows before after : List TreeRow) (row : TreeRow) (e : rows ≡ before ++ row ∷ after) (named : row.name ≢ []) (none : NoneNamed row.name after) where
  -- the tree of the rows before this one
  abbrev front : Tree
  front = fold tree_with_row root_only before

  all_is : fold tree_with_row root_only rows ≡ fold tree_with_row (tree_with_row front row) after
  all_is = ap (fold tree_with_row root_only) e ∙ rows_apart root_only before (row ∷ after)

  has_number : object_of (fold tree_with_row root_only rows) row.name ≡ Some (suc (length front.objects))
  has_number = ap (λ tree. object_of tree row.name) all_is ∙ number_kept (tree_with_row front row) after row.name none ∙ number_added front row.name (node_of_new row.new) named

  row_number : object_of (fold tree_with_row root_only rows) row.name ≡ Some (2 + length before)
  row_number = has_number ∙ ap Some (let all = length-objects root_only before in omega (arith, all))

  row_object : node_of (fold tree_with_row root_only rows) row.name ≡ Some (node_of_new row.new)
  row_object =
      let new : node_of_number (tree_with_row front row) (suc (length front.objects)) ≡ Some (node_of_new row.new) =
      sym (ap (node_at (tree_with_row front row)) (number_added front row.name (node_of_new row.new) named)) ∙ node_added front row.name (node_of_new row.new) named in
      ap (node_at (fold tree_with_row root_only rows)) has_number
      ∙ ap (λ tree. node_of_number tree (suc (length front.objects))) all_is
      ∙ object_kept (tree_with_row front row) after (suc (length front.objects)) (node_of_new row.new) new

no_name : (name : Components) → name ≢ [] → object_of root_only name ≡ None
no_name [] below = absurd (below refl)
no_name (part ∷ rest) below = refl

pub tree_begins : (i : Input) → TreeBegins i.start.tree (first_tree i)
tree_begins i = record {
  root = root_kept root_only i.start.tree refl;
  number = λ before after row e named none. row_number i.start.tree before after row e named none;
  object = λ before after row e named none. row_object i.start.tree before after row e named none;
  no_more = λ name below none. number_kept root_only i.start.tree name none ∙ no_name name below;
}

-- ---- descriptors

place_of : (first fd : ℕ) → fd < 3 → slice_index_or (first_three_places first) fd None ≡ Some (first + fd)
place_of first zero low = ap Some (omega arith)
place_of first (suc zero) low = refl
place_of first (suc (suc zero)) low = refl
place_of first (suc (suc (suc fd))) low = absurd (omega (arith, low))

free_of : {X : Type 0} (x : X) (n fd : ℕ) → slice_index_or (replicate n x) fd x ≡ x
free_of x zero fd = refl
free_of x (suc n) zero = refl
free_of x (suc n) (suc fd) = free_of x n fd

no_place_of : (first fd : ℕ) → 3 ≤ fd → slice_index_or (first_three_places first) fd None ≡ None
no_place_of first zero high = absurd (omega (arith, high))
no_place_of first (suc zero) high = absurd (omega (arith, high))
no_place_of first (suc (suc zero)) high = absurd (omega (arith, high))
no_place_of first (suc (suc (suc fd))) high = free_of None 61 fd

length-replicate : {X : Type 0} (n : ℕ) (x : X) → length (replicate n x) ≡ n
length-replicate zero x = refl
length-replicate (suc n) x = ap suc (length-replicate n x)

three_more : {X : Type 0} (n : ℕ) (x : X) → replicate n x ++ x ∷ x ∷ x ∷ [] ≡ replicate (n + 3) x
three_more zero x = refl
three_more (suc n) x = ap (λ xs. x ∷ xs) (three_more n x) ∙ ap (λ m. replicate m x) (let more : suc (n + 3) ≡ suc n + 3 = omega arith in more)

chosen : (b : Bool) (own : List (Option ℕ)) (rest : Option (List (Option ℕ))) (fd : ℕ) → slice_index_or (unwrap_or (cond b (Some own) rest) []) fd None ≡ cond b (slice_index_or own fd None) (slice_index_or (unwrap_or rest []) fd None)
chosen true own rest fd = refl
chosen false own rest fd = refl

module _ (table : Table) (n : ℕ) (x : ConsolesBegin n table) where
  abbrev more : Table
  more = table_after_start table (suc n)

  first_is : length table.files ≡ 3 * n
  first_is = ap length x.files ∙ length-replicate (3 * n) console

  places : (p fd : ℕ) → file_number_at more (suc p) fd ≡ cond (suc p == suc n) (slice_index_or (first_three_places (length table.files)) fd None) (file_number_at table (suc p) fd)
  places p fd = ap (λ o. slice_index_or (unwrap_or o []) fd None) (lookup-insert_number (suc p) (suc n) (first_three_places (length table.files)) table.processes)
      ∙ chosen (suc p == suc n) (first_three_places (length table.files)) (lookup (is_at (nat_cmp (suc p))) table.processes) fd

  own_place : (p fd : ℕ) → p ≡ n → file_number_at more (suc p) fd ≡ slice_index_or (first_three_places (length table.files)) fd None
  own_place p fd same = places p fd ∙ ap (λ b. cond b (slice_index_or (first_three_places (length table.files)) fd None) (file_number_at table (suc p) fd)) (eq-eqb (suc p) (suc n) (ap suc same))

  other_place : (p fd : ℕ) → p ≢ n → file_number_at more (suc p) fd ≡ file_number_at table (suc p) fd
  other_place p fd differ = places p fd ∙ ap (λ b. cond b (slice_index_or (first_three_places (length table.files)) fd None) (file_number_at table (suc p) fd)) (ne_eqb (suc p) (suc n) (λ same. differ (omega (arith, same))))

  one_more : ConsolesBegin (suc n) more
  one_more = record {
    three = λ p fd low few. three p fd low few (p == n) refl;
    no_more = λ p fd low high. none p fd low high (p == n) refl;
    no_other = λ p fd high. other_place p fd (λ same. omega (arith, same, high)) ∙ x.no_other p fd (omega (arith, high));
    files = ap (λ files. files ++ console ∷ console ∷ console ∷ []) x.files ∙ three_more (3 * n) console ∙ ap (λ m. replicate m console) (let m : 3 * n + 3 ≡ 3 * suc n = omega arith in m);
  } where
    three : (p fd : ℕ) → p < suc n → fd < 3 → (b : Bool) → (p == n) ≡ b → file_number_at more (suc p) fd ≡ Some (3 * p + fd)
    three p fd low few true e = let same : p ≡ n = eqb-true p n e in
        own_place p fd same ∙ place_of (length table.files) fd few ∙ ap Some (let is = first_is in omega (arith, is, same))
    three p fd low few false e = let differ : p ≢ n = eqb-false p n e in other_place p fd differ ∙ x.three p fd (omega (arith, low, differ)) few

    none : (p fd : ℕ) → p < suc n → 3 ≤ fd → (b : Bool) → (p == n) ≡ b → file_number_at more (suc p) fd ≡ None
    none p fd low high true e = own_place p fd (eqb-true p n e) ∙ no_place_of (length table.files) fd high
    none p fd low high false e = let differ : p ≢ n = eqb-false p n e in other_place p fd differ ∙ x.no_more p fd (omega (arith, low, differ)) high

begun_on : (table : Table) (n a m count : ℕ) → a ≡ suc n → count ≡ n + m → ConsolesBegin n table → ConsolesBegin count (fold table_after_start table (range_with_len a m))
begun_on table n a zero count e f x = subst (λ k. ConsolesBegin k table) (let same : n ≡ count = omega (arith, f) in same) x
begun_on table n a (suc m) count e f x =
    begun_on (table_after_start table a) (suc n) (a + 1) m count (omega (arith, e)) (omega (arith, f))
    (subst (λ number. ConsolesBegin (suc n) (table_after_start table number)) (sym e) (one_more table n x))

pub consoles_begin : (i : Input) → ConsolesBegin (length i.start.processes) (first_descriptors i)
consoles_begin i = begun_on no_descriptors 0 1 (length i.start.processes) (length i.start.processes) refl (omega arith) (record {
  three = λ p fd low few. absurd (omega (arith, low));
  no_more = λ p fd low high. refl;
  no_other = λ p fd high. refl;
  files = refl;
})
