-- What lawful reloads name: policies of the script. There are none where policies are learnt, so each binary keeps the policy that was read.
use Rattle.std.proofs.Common.{◌≡◌, ◌++◌, ℕ, Bool, List, [], ◌∷◌, refl, subst}
use Rattle.std.proofs.lemmas.List.Elements.{All-head}
use Rattle.std.specs.List.{All}
use Rattle.st_trace.specs.declared.entry.Change.{Change}
use Rattle.st_trace.specs.declared.entry.Entry.TheVariants.{Stored, Entered, Claimed, Copied, Looked, Faulted, Answered, Used, Denied, Ended, Replied, Learned, Reloaded}
use Rattle.st_trace.specs.declared.start.Instr.{Instr}
use Rattle.st_trace.specs.declared.start.Instr.TheVariants.{Reload}
use Rattle.st_law.specs.History.{looking_back}
use Rattle.st_law.specs.Inputs.{IsInstruction, IsStartable}
use Rattle.st_law.specs.Lawful.{IsLawfulBack, IsReloaded}
use Rattle.st_law.specs.Threads.{History}
use Rattle.st_law.specs.Versions.{version_at}
use Rattle.st_law.specs.declared.input.Input.{Input}
use Rattle.st_law.specs.declared.input.Mode.TheVariants.{Learn}
use Rattle.st_law.proofs.Laws.{invariant_of}

module _ (i : Input) (startable : IsStartable i) where
  next_is : (n : ℕ) (left later : List Instr) → left ≡ Reload n ∷ later → All (IsInstruction i) left → IsInstruction i (Reload n)
  next_is n left later e all = All-head (IsInstruction i) (Reload n) later (subst (All (IsInstruction i)) e all)

  -- a reload is an instruction of the script
  pub reload_given : (h : History) (t n : ℕ) (done : Bool) (changes : List Change) → IsLawfulBack i (Reloaded t n done changes ∷ h) → IsInstruction i (Reload n)
  reload_given h t n done changes lawful =
      let y : IsReloaded i (looking_back i h) t n done changes = lawful.0 in
      next_is n ((looking_back i h).threads t).left y.later y.next ((invariant_of i startable h lawful.1).bodies t)

  module _ (learns : i.options.mode ≡ Learn) where
    versions_read : (h : History) → IsLawfulBack i h → (binary : List ℕ) → version_at i h binary ≡ 0
    versions_read [] lawful binary = refl
    versions_read (Reloaded t n done changes ∷ h) lawful binary = absurd ((reload_given h t n done changes lawful).1 learns)
    versions_read (Stored u place word ∷ h) lawful binary = versions_read h lawful.1 binary
    versions_read (Entered u call regs way ∷ h) lawful binary = versions_read h lawful.1 binary
    versions_read (Claimed w q ∷ h) lawful binary = versions_read h lawful.1 binary
    versions_read (Copied q part place word ∷ h) lawful binary = versions_read h lawful.1 binary
    versions_read (Looked q part name seen ∷ h) lawful binary = versions_read h lawful.1 binary
    versions_read (Faulted q errno ∷ h) lawful binary = versions_read h lawful.1 binary
    versions_read (Answered w s v applied ∷ h) lawful binary = versions_read h lawful.1 binary
    versions_read (Used u seq call regs args ids result changes ∷ h) lawful binary = versions_read h lawful.1 binary
    versions_read (Denied u seq errno cause ∷ h) lawful binary = versions_read h lawful.1 binary
    versions_read (Ended u ∷ h) lawful binary = versions_read h lawful.1 binary
    versions_read (Replied q reply n ∷ h) lawful binary = versions_read h lawful.1 binary
    versions_read (Learned q n ∷ h) lawful binary = versions_read h lawful.1 binary

    -- the version of each policy is that which was read, after a lawful history and after each front of it
    pub versions_while_learning : (later earlier : History) → IsLawfulBack i (later ++ earlier) → (binary : List ℕ) → version_at i earlier binary ≡ 0
    versions_while_learning [] earlier lawful binary = versions_read earlier lawful binary
    versions_while_learning (e ∷ later) earlier lawful binary = versions_while_learning later earlier lawful.1 binary
