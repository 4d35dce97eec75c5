use Rattle.std.proofs.Common.{◌≡◌, ℕ, ◌+◌, ◌-◌, List, [], ◌∷◌, ◌++◌, length, length-append, Some, None, refl, sym, ap, ◌∙◌, subst, arith}
use Rattle.std.specs.Prelude.{IfOk}
use Rattle.std.specs.List.{slice_get}
use Rattle.std.proofs.lemmas.Option.{slice_get_read}
use Rattle.std.proofs.Math.Seq.{get_or-append_seam}
use mathlib.Core.Path.{ap₂}
use Rattle.fpl_log.specs.declared.section.Section.{Section}
use Rattle.fpl_bytes.specs.declared.version.Version.TheVariants.{Two}
use Rattle.fpl_section_bytes.specs.Spelling.{section_bytes_of}
use Rattle.fpl_run.proofs.written.put_last_section.Goals as goal

last_of : (xs before : List Section) (s : Section) (n : ℕ) → xs ≡ before ++ s ∷ [] → n ≡ length xs → slice_get xs (n - 1) ≡ Some s
last_of xs before s n e l =
    let long : length (before ++ s ∷ []) ≡ length before + 1 = length-append before (s ∷ []) in
    let at : n - 1 ≡ length before = omega (arith, l, ap length e, long) in
    ap (slice_get xs) at ∙ ap (λ (ys : List Section). slice_get ys (length before)) e
    ∙ slice_get_read (before ++ s ∷ []) (length (before ++ s ∷ [])) (length before) s refl (omega (arith, long)) (sym (get_or-append_seam before s [] s))

pub returns-in-Some-clause-puts : goal.returns-in-Some-clause-puts
returns-in-Some-clause-puts g c = λ before section is.
    let all : c.sections-sections.result.now ≡ before ++ section ∷ [] = c.sections-sections.ensures.same ∙ c.state-2.ensures.sections ∙ is in
    let last = last_of c.sections-sections.result.now before section c.len.result all c.len.ensures.value in
    let found : Some c.in-Some.section.now ≡ Some section = c.in-Some.ensures ∙ last in
    let same : c.in-Some.section.now ≡ section = cc in
    let text = ap₂ (λ q s. section_bytes_of Two q.field s) (c.presentation.ensures.same ∙ c.state.ensures.presentation) same in
    c.put_text.ensures.puts (section_bytes_of Two c.args.run.now.presentation.field section)
    (subst (λ t. IfOk c.section_bytes.result (λ made. made.items ≡ t)) text c.section_bytes.ensures.bytes)

pub returns-in-None-clause-puts : goal.returns-in-None-clause-puts
returns-in-None-clause-puts g c = λ before section is.
    let all : c.sections-sections.result.now ≡ before ++ section ∷ [] = c.sections-sections.ensures.same ∙ c.state-2.ensures.sections ∙ is in
    let last = last_of c.sections-sections.result.now before section c.len.result all c.len.ensures.value in
    let none : None ≡ Some section = c.in-None.ensures ∙ last in
    cc
