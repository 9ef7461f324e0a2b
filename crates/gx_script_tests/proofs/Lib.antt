mod ParsedScripts
