use Rattle.std.proofs.Common.{◌≡◌, ◌++◌, ◌∙◌, ap, codes}
use Rattle.std.specs.Fmt.{decimal}
use Rattle.std.specs.String.{string_bytes}
use Rattle.gm_base.proofs.Lists.{before}
use Rattle.gm_calendar.specs.Spelling.{instant_text}
use Rattle.gm_program.specs.Generator.{behind, drawn, next, place_text, put_line, second_of_2020}
use Rattle.gm_program.proofs.generator.append_put.Goals as goal

pub returns-clause-script : goal.returns-clause-script
unfolding put_line
returns-clause-script c =
    let start = c.args.state.now in
    let s1 : c.draw-name.new.state ≡ behind 1 start = c.draw-name.ensures.state in
    let s2 : c.draw-value.new.state ≡ behind 2 start = c.draw-value.ensures.state ∙ ap next s1 in
    let s3 : c.draw-second.new.state ≡ behind 3 start = c.draw-second.ensures.state ∙ ap next s2 in
    let s4 : c.draw-x.new.state ≡ behind 4 start = c.draw-x.ensures.state ∙ ap next s3 in
    let s5 : c.draw-y.new.state ≡ behind 5 start = c.draw-y.ensures.state ∙ ap next s4 in
    let name : c.draw-name.result ≡ drawn 100 (behind 1 start) =
    c.draw-name.ensures.number ∙ ap (drawn 100) s1 in
    let value : c.draw-value.result ≡ drawn 1000 (behind 2 start) =
    c.draw-value.ensures.number ∙ ap (drawn 1000) s2 in
    let second : c.draw-second.result ≡ drawn 31536000 (behind 3 start) =
    c.draw-second.ensures.number ∙ ap (drawn 31536000) s3 in
    let x : c.draw-x.result ≡ drawn 3600000001 (behind 4 start) =
    c.draw-x.ensures.number ∙ ap (drawn 3600000001) s4 in
    let y : c.draw-y.result ≡ drawn 1800000001 (behind 5 start) =
    c.draw-y.ensures.number ∙ ap (drawn 1800000001) s5 in
    let e1 : string_bytes c.append.new.script
    ≡ string_bytes c.args.script.now ++ codes "put gen g" = c.in_ok-append.ensures in
    let e2 : string_bytes c.append_number.new.script
    ≡ string_bytes c.append.new.script ++ decimal c.args.feature_number =
    c.in_ok-append_number.ensures
    ∙ ap (λ n. string_bytes c.append.new.script ++ decimal n) c.from.ensures in
    let e3 : string_bytes c.append-2.new.script
    ≡ string_bytes c.append_number.new.script ++ codes ",n" = c.in_ok-append-2.ensures in
    let e4 : string_bytes c.append_number-2.new.script
    ≡ string_bytes c.append-2.new.script ++ decimal (drawn 100 (behind 1 start)) =
    c.in_ok-append_number-2.ensures
    ∙ ap (λ n. string_bytes c.append-2.new.script ++ decimal n) name in
    let e5 : string_bytes c.append-3.new.script
    ≡ string_bytes c.append_number-2.new.script ++ codes "," = c.in_ok-append-3.ensures in
    let e6 : string_bytes c.append_number-3.new.script
    ≡ string_bytes c.append-3.new.script ++ decimal (drawn 1000 (behind 2 start)) =
    c.in_ok-append_number-3.ensures
    ∙ ap (λ n. string_bytes c.append-3.new.script ++ decimal n) value in
    let e7 : string_bytes c.append-4.new.script
    ≡ string_bytes c.append_number-3.new.script ++ codes "," = c.in_ok-append-4.ensures in
    let e8 : string_bytes c.append_second.new.script
    ≡ string_bytes c.append-4.new.script
    ++ instant_text (second_of_2020 (drawn 31536000 (behind 3 start))) =
    c.in_ok-append_second.ensures
    ∙ ap (λ n. string_bytes c.append-4.new.script ++ instant_text (second_of_2020 n))
    second in
    let e9 : string_bytes c.append_place.new.script
    ≡ string_bytes c.append_second.new.script
    ++ place_text (drawn 3600000001 (behind 4 start)) (drawn 1800000001 (behind 5 start)) =
    c.in_ok-append_place.ensures
    ∙ (λ i. string_bytes c.append_second.new.script ++ place_text (x i) (y i)) in
    before (string_bytes c.args.script.now) (codes "put gen g")
    (decimal c.args.feature_number
    ++ (codes ",n"
    ++ (decimal (drawn 100 (behind 1 start))
    ++ (codes "," ++ (decimal (drawn 1000 (behind 2 start))
    ++ (codes "," ++ (instant_text (second_of_2020 (drawn 31536000 (behind 3 start)))
    ++ (place_text (drawn 3600000001 (behind 4 start))
    (drawn 1800000001 (behind 5 start))))))))))
    (before (string_bytes c.append.new.script) (decimal c.args.feature_number)
    (codes ",n" ++ (decimal (drawn 100 (behind 1 start))
    ++ (codes "," ++ (decimal (drawn 1000 (behind 2 start))
    ++ (codes "," ++ (instant_text
    (second_of_2020 (drawn 31536000 (behind 3 start)))
    ++ (place_text (drawn 3600000001 (behind 4 start))
    (drawn 1800000001 (behind 5 start)))))))))
    (before (string_bytes c.append_number.new.script) (codes ",n")
    (decimal (drawn 100 (behind 1 start))
    ++ (codes "," ++ (decimal (drawn 1000 (behind 2 start))
    ++ (codes "," ++ (instant_text
    (second_of_2020 (drawn 31536000 (behind 3 start)))
    ++ (place_text (drawn 3600000001 (behind 4 start))
    (drawn 1800000001 (behind 5 start))))))))
    (before (string_bytes c.append-2.new.script)
    (decimal (drawn 100 (behind 1 start)))
    (codes "," ++ (decimal (drawn 1000 (behind 2 start))
    ++ (codes "," ++ (instant_text
    (second_of_2020 (drawn 31536000 (behind 3 start)))
    ++ (place_text (drawn 3600000001 (behind 4 start))
    (drawn 1800000001 (behind 5 start)))))))
    (before (string_bytes c.append_number-2.new.script) (codes ",")
    (decimal (drawn 1000 (behind 2 start))
    ++ (codes "," ++ (instant_text
    (second_of_2020 (drawn 31536000 (behind 3 start)))
    ++ (place_text (drawn 3600000001 (behind 4 start))
    (drawn 1800000001 (behind 5 start))))))
    (before (string_bytes c.append-3.new.script)
    (decimal (drawn 1000 (behind 2 start)))
    (codes "," ++ (instant_text
    (second_of_2020 (drawn 31536000 (behind 3 start)))
    ++ (place_text (drawn 3600000001 (behind 4 start))
    (drawn 1800000001 (behind 5 start)))))
    (before (string_bytes c.append_number-3.new.script) (codes ",")
    (instant_text (second_of_2020 (drawn 31536000 (behind 3 start)))
    ++ (place_text (drawn 3600000001 (behind 4 start)) (drawn 1800000001 (behind 5 start))))
    (before (string_bytes c.append-4.new.script)
    (instant_text (second_of_2020 (drawn 31536000 (behind 3 start))))
    (place_text (drawn 3600000001 (behind 4 start))
    (drawn 1800000001 (behind 5 start))) (e9) e8) e7) e6) e5) e4) e3) e2) e1
